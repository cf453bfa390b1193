-- Remainders are linear, so those of eight bits can be looked up.
use Rattle.std.proofs.Common.{◌≡◌, ℕ, ◌+◌, ◌*◌, ◌/◌, ◌%◌, ◌^◌, ◌<◌, ◌≤◌, zero, suc, List, [], ◌∷◌, ◌++◌, length, take, get_or, true, fold, refl, sym, ap, ◌∙◌, arith, append_assoc}
use Rattle.std.specs.List.{concat}
use Rattle.std.proofs.lemmas.List.{take_more, take_all, append-nil}
use Rattle.std.proofs.lemmas.List.Folds.{concat-append}
use Rattle.std.proofs.lemmas.List.Sums.{fold-append}
use Rattle.std.specs.Int.Bits.{bit_xor, xor_zero_r}
use Rattle.std.proofs.lemmas.Nat.{xor_comm, xor_shr, xor_mod, xor_block, xor_lt}
use Rattle.std.proofs.lemmas.Bool.{and_parts, eqb-true}
use lib.Bits.{xor_assoc}
use Rattle.xs_tape.specs.Checksum.{polynomial, shifted, shifts, with_byte, crc32c, is_table}

-- two pairs, crossed
crossed : (a b c d : ℕ) → bit_xor (bit_xor a b) (bit_xor c d) ≡ bit_xor (bit_xor a c) (bit_xor b d)
crossed a b c d =
    xor_assoc a b (bit_xor c d)
    ∙ ap (bit_xor a) (sym (xor_assoc b c d) ∙ ap (λ x. bit_xor x d) (xor_comm b c) ∙ xor_assoc c b d)
    ∙ sym (xor_assoc a c (bit_xor b d))

bit-times : (x y : ℕ) → x < 2 → y < 2 → polynomial * bit_xor x y ≡ bit_xor (polynomial * x) (polynomial * y)
bit-times zero y hx hy = refl
bit-times (suc zero) zero hx hy = refl
bit-times (suc zero) (suc zero) hx hy = refl
bit-times (suc zero) (suc (suc y)) hx hy = absurd (omega arith)
bit-times (suc (suc x)) y hx hy = absurd (omega arith)

shifted-xor : (a b : ℕ) → shifted (bit_xor a b) ≡ bit_xor (shifted a) (shifted b)
shifted-xor a b =
    ap (λ x. bit_xor x (polynomial * (bit_xor a b % 2))) (xor_shr a b 1)
    ∙ ap (λ x. bit_xor (bit_xor (a / 2) (b / 2)) (polynomial * x)) (xor_mod a b 1)
    ∙ ap (bit_xor (bit_xor (a / 2) (b / 2))) (bit-times (a % 2) (b % 2) (omega arith) (omega arith))
    ∙ crossed (a / 2) (b / 2) (polynomial * (a % 2)) (polynomial * (b % 2))

shifts-xor : (n a b : ℕ) → shifts n (bit_xor a b) ≡ bit_xor (shifts n a) (shifts n b)
shifts-xor zero a b = refl
shifts-xor (suc n) a b = ap (shifts n) (shifted-xor a b) ∙ shifts-xor n (shifted a) (shifted b)

-- if no power comes out, a shift halves
shifted-even : (n half : ℕ) → n ≡ half * 2 → shifted n ≡ half
shifted-even n half e =
    let low : n % 2 ≡ 0 = omega (arith, e) in
    let high : n / 2 ≡ half = omega (arith, e) in
    ap (λ x. bit_xor x (polynomial * (n % 2))) high ∙ ap (λ x. bit_xor half (polynomial * x)) low ∙ xor_zero_r half

shifts-even : (n half next : ℕ) (k : ℕ) → n ≡ half * 2 → shifts k half ≡ next → shifts (suc k) n ≡ next
shifts-even n half next k e f = ap (shifts k) (shifted-even n half e) ∙ f

shifts-high : (high : ℕ) → shifts 8 (high * 256) ≡ high
shifts-high high =
    shifts-even (high * 256) (high * 128) high 7 (omega arith)
    (shifts-even (high * 128) (high * 64) high 6 (omega arith)
    (shifts-even (high * 64) (high * 32) high 5 (omega arith)
    (shifts-even (high * 32) (high * 16) high 4 (omega arith)
    (shifts-even (high * 16) (high * 8) high 3 (omega arith)
    (shifts-even (high * 8) (high * 4) high 2 (omega arith)
    (shifts-even (high * 4) (high * 2) high 1 (omega arith)
    (shifts-even (high * 2) high high 0 (omega arith) refl)))))))

-- the low eight bits and the byte are looked up, the others move down
pub with_byte-split : (remainder byte : ℕ) → byte < 256 → with_byte remainder byte ≡ bit_xor (shifts 8 (bit_xor (remainder % 256) byte)) (remainder / 256)
unfolding with_byte
with_byte-split remainder byte small =
    let high = remainder / 256 in
    let low = bit_xor (remainder % 256) byte in
    let fits : low < 2 ^ 8 = xor_lt 8 (remainder % 256) byte (omega arith) small in
    let split : remainder ≡ high * 256 + remainder % 256 = omega arith in
    let alone : byte ≡ 0 * 256 + byte = omega arith in
    let whole : bit_xor (high * 256 + remainder % 256) (0 * 256 + byte) ≡ bit_xor high 0 * 256 + low = xor_block 8 high 0 (remainder % 256) byte (omega arith) small in
    let apart : bit_xor (high * 256 + 0) (0 * 256 + low) ≡ bit_xor high 0 * 256 + low = xor_block 8 high 0 0 low (omega arith) fits in
    let upper : high * 256 ≡ high * 256 + 0 = omega arith in
    let lower : low ≡ 0 * 256 + low = omega arith in
    let parts : bit_xor remainder byte ≡ bit_xor (high * 256) low =
    ap (λ r. bit_xor r byte) split ∙ ap (λ b. bit_xor (high * 256 + remainder % 256) b) alone ∙ whole
    ∙ sym (ap (λ h. bit_xor h low) upper ∙ ap (λ l. bit_xor (high * 256 + 0) l) lower ∙ apart) in
    ap (shifts 8) parts ∙ shifts-xor 8 (high * 256) low ∙ ap (λ x. bit_xor x (shifts 8 low)) (shifts-high high) ∙ xor_comm high (shifts 8 low)

pub table-entry : (from : ℕ) (table : List ℕ) (i : ℕ) → is_table from table ≡ true → i < length table → get_or table i 0 ≡ shifts 8 (from + i)
table-entry from [] i is lt = absurd (omega arith)
table-entry from (entry ∷ table) zero is lt = eqb-true entry (shifts 8 from) (and_parts _ _ is).0 ∙ ap (shifts 8) (omega arith)
table-entry from (entry ∷ table) (suc i) is lt = table-entry (from + 1) table i (and_parts _ _ is).1 (omega (arith, lt)) ∙ ap (shifts 8) (omega arith)

pub table_byte : (table : List ℕ) (i : ℕ) → is_table 0 table ≡ true → i < length table → get_or table i 0 ≡ shifts 8 i
table_byte table i is lt = table-entry 0 table i is lt ∙ ap (shifts 8) (omega arith)

-- a word more
pub words_more : (first : List ℕ) (rest : List (List ℕ)) (i : ℕ) (so_far next : ℕ) → i < length rest → so_far ≡ fold with_byte 4294967295 (concat (first ∷ take i rest)) → next ≡ fold with_byte so_far (get_or rest i [])
    → next ≡ fold with_byte 4294967295 (concat (first ∷ take (i + 1) rest))
words_more first rest i so_far next lt e f =
    let done = concat (first ∷ take i rest) in
    let word = get_or rest i [] in
    f ∙ ap (λ r. fold with_byte r word) e ∙ sym (fold-append with_byte 4294967295 done word)
    ∙ ap (fold with_byte 4294967295) (append_assoc first (concat (take i rest)) word
    ∙ ap (λ b. first ++ b) (ap (λ b. concat (take i rest) ++ b) (sym (append-nil word)) ∙ sym (concat-append (take i rest) (word ∷ [])) ∙ ap concat (sym (take_more rest i [] lt))))

pub words_done : (first : List ℕ) (rest : List (List ℕ)) (i so_far : ℕ) → length rest ≤ i → so_far < 2 ^ 32 → so_far ≡ fold with_byte 4294967295 (concat (first ∷ take i rest)) → bit_xor so_far 4294967295 ≡ crc32c (concat (first ∷ rest))
unfolding crc32c
words_done first rest i so_far le small e =
    let all : so_far ≡ fold with_byte 4294967295 (concat (first ∷ rest)) = e ∙ ap (λ ws. fold with_byte 4294967295 (concat (first ∷ ws))) (take_all i rest le) in
    let fits : bit_xor so_far 4294967295 < 2 ^ 32 = xor_lt 32 so_far 4294967295 small (omega arith) in
    let same : bit_xor so_far 4294967295 ≡ bit_xor so_far 4294967295 % 2 ^ 32 = omega (arith, fits) in
    same ∙ ap (λ r. bit_xor r 4294967295 % 2 ^ 32) all
