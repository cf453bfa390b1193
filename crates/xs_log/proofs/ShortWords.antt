-- Words that are short enough for a record.
use Rattle.std.proofs.Common.{ℕ, ◌+◌, ◌^◌, ◌<◌, ◌≤◌, List, [], ◌∷◌, ◌++◌, length, map, take, decimal, Option, Some, None, sym, subst, arith}
use Rattle.std.proofs.lemmas.Fmt.{length-decimal-le}
use Rattle.std.proofs.Math.ListN.{get_or}
use Rattle.std.proofs.lemmas.List.{take_more}
use Rattle.std.specs.List.{AllByRecursion}
use Rattle.xs_resp.specs.Grammar.{AreSizes}
use Rattle.xs_tape.specs.Escape.{escaped}
use Rattle.xs_tape.specs.Records.{CanBeSpelled, record_words}
use Rattle.xs_tape.proofs.Sizes.{escaped-short, can_be_spelled}
use Rattle.xs_replay.specs.Snapshot.{header_values}
use Rattle.xs_log.specs.SnapshotPieces.{AreShort, MomentFits}

short-sizes : (words : List (List ℕ)) → AllByRecursion (λ word. length word ≤ 268435456) words → AreSizes (map escaped words)
short-sizes [] short = tt
short-sizes (word ∷ words) short = (omega (arith, escaped-short word, short.0), short-sizes words short.1)

pub short_spelled : (first : List ℕ) (rest : List (List ℕ)) → length first ≤ 64 → AreShort rest → CanBeSpelled (record_words first rest)
short_spelled first rest small short =
    can_be_spelled first rest (omega (arith, short.few)) (short-sizes rest short.short) (omega (arith, escaped-short first, small))

all-more : (words : List (List ℕ)) (word : List ℕ) → AllByRecursion (λ w. length w ≤ 268435456) words → length word ≤ 268435456 → AllByRecursion (λ w. length w ≤ 268435456) (words ++ word ∷ [])
all-more [] word all one = (one, tt)
all-more (w ∷ words) word all one = (all.0, all-more words word all.1 one)

-- one word more
pub short_more : (words : List (List ℕ)) (i : ℕ) → i < length words → AllByRecursion (λ w. length w ≤ 268435456) (take i words) → length (get_or words i []) ≤ 268435456 → AllByRecursion (λ w. length w ≤ 268435456) (take (i + 1) words)
short_more words i lt all one = subst (AllByRecursion (λ w. length w ≤ 268435456)) (sym (take_more words i [] lt)) (all-more (take i words) (get_or words i []) all one)

number-short : (n : ℕ) → n < 2 ^ 64 → length (decimal n) ≤ 20
number-short n small = length-decimal-le 20 n (omega arith) (omega (arith, small)) small

-- a number is short
pub number_short : (n : ℕ) → n < 2 ^ 64 → AreShort (decimal n ∷ [])
number_short n small = record { few = omega arith; short = (omega (arith, number-short n small), tt) }

-- and a header is
pub header_short : (number : ℕ) (moment : Option ℕ) → number < 2 ^ 64 → MomentFits moment → AreShort (header_values number moment)
header_short number None small fits = record { few = omega arith; short = (omega arith, (omega (arith, number-short number small), (omega (arith, number-short 1 (omega arith)), tt))) }
header_short number (Some moment) small fits =
    record { few = omega arith; short = (omega arith, (omega (arith, number-short number small), (omega (arith, number-short 1 (omega arith)), (omega (arith, number-short moment (omega (arith, fits))), tt)))) }
