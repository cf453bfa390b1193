-- What the words of XREADGROUP give is well formed.
use Rattle.std.proofs.Common.{◌≡◌, ◌≢◌, ℕ, ◌<◌, ◌/◌, ◌%◌, Bool, true, false, cond, List, [], ◌∷◌, length, Option, Some}
use Rattle.std.proofs.Common.{None, Result, Ok, Err, refl, sym, ap, subst, ◌∙◌, arith, bytes_eq, take, drop, codes}
use Rattle.std.specs.Prelude.{◌&&◌, ◌||◌, ◌==◌, not, nat_lt}
use Rattle.std.specs.List.{list_any, IsDistinct, AllByRecursion}
use Rattle.std.proofs.lemmas.Bool.Decides.{nat_tests}
use Rattle.std.proofs.lemmas.List.{length-take}
use Rattle.xs_resp.specs.declared.fault.Fault.{Fault}
use Rattle.xs_resp.specs.declared.fault.Fault.TheVariants.{Syntax, Unsupported}
use Rattle.xs_command.specs.declared.command.Command.{Command}
use Rattle.xs_command.specs.declared.command.Command.TheVariants as command
use Rattle.xs_command.specs.declared.command.ReadOne.{ReadOne}
use Rattle.xs_command.specs.declared.command.ReadFrom.{ReadFrom}
use Rattle.xs_command.specs.declared.xreadgroup.Reader.{Reader}
use Rattle.xs_command.specs.declared.xreadgroup.ReadOptions.{ReadOptions}
use Rattle.xs_command.specs.WellFormed.{IsWellFormed, keys_of}
use Rattle.xs_command.specs.Words.{is_word, word}
use Rattle.xs_command.specs.Options.{many}
use Rattle.xs_command.specs.Streams.{is_distinct, read_from, before, read_before, each_from, keys_and_starts, streams}
use Rattle.xs_command.specs.Xreadgroup.{xreadgroup, read_option, no_read_options, read_group, behind_streams}
use Rattle.xs_command.proofs.Formed.{Always, after_any}

keys_first : (key : List ℕ) (keys : List (List ℕ)) (from : ReadFrom) (more : Result (List ReadOne) Fault) → ((reads : List ReadOne) → more ≡ Ok reads → keys_of reads ≡ keys) → (reads : List ReadOne) → before (record { key = key; from = from }) more ≡ Ok reads → keys_of reads ≡ key ∷ keys
keys_first key keys from (Ok others) h reads e =
    let first : ReadOne = record { key = key; from = from } in
    let same : first ∷ others ≡ reads = cc in
    subst (λ (reads : List ReadOne). keys_of reads ≡ key ∷ keys) same (ap (λ (keys : List (List ℕ)). key ∷ keys) (h others refl))
keys_first key keys from (Err fault) h reads e = absurd cc

-- the keys that are read are those that were written
keys_before : (key : List ℕ) (keys : List (List ℕ)) (read : Result (ReadFrom × List (List ℕ)) Fault) (more : List (List ℕ) → Result (List ReadOne) Fault) → ((froms : List (List ℕ)) (reads : List ReadOne) → more froms ≡ Ok reads → keys_of reads ≡ keys) → (reads : List ReadOne) → read_before key read more ≡ Ok reads → keys_of reads ≡ key ∷ keys
keys_before key keys (Err fault) more h reads e = absurd cc
keys_before key keys (Ok read) more h reads e = keys_first key keys read.0 (more read.1) (h read.1) reads e

keys_are : (keys froms : List (List ℕ)) (reads : List ReadOne) → each_from keys froms ≡ Ok reads → keys_of reads ≡ keys
unfolding each_from
keys_are [] froms reads e = let same : [] ≡ reads = cc in subst (λ (reads : List ReadOne). keys_of reads ≡ []) same refl
keys_are (key ∷ keys) froms reads e = keys_before key keys (read_from froms) (each_from keys) (keys_are keys) reads e

-- no word of the others is equal to this one
none_more : (a b : Bool) (key k : List ℕ) (keys : List (List ℕ)) → bytes_eq key k ≡ a → (b ≡ false → AllByRecursion (λ other. bytes_eq key other ≡ false) keys) → (a || b) ≡ false → AllByRecursion (λ other. bytes_eq key other ≡ false) (k ∷ keys)
none_more true b key k keys p others h = absurd cc
none_more false b key k keys p others h = (p, others h)

none_equal : (key : List ℕ) (keys : List (List ℕ)) → list_any (bytes_eq key) keys ≡ false → AllByRecursion (λ other. bytes_eq key other ≡ false) keys
none_equal key [] h = tt
none_equal key (k ∷ keys) h = none_more (bytes_eq key k) (list_any (bytes_eq key) keys) key k keys refl (none_equal key keys) h

distinct_more : (a : Bool) (key : List ℕ) (keys : List (List ℕ)) → list_any (bytes_eq key) keys ≡ a → (is_distinct keys ≡ true → IsDistinct bytes_eq keys) → (not a && is_distinct keys) ≡ true → IsDistinct bytes_eq (key ∷ keys)
unfolding IsDistinct
distinct_more true key keys p others h = absurd cc
distinct_more false key keys p others h = (none_equal key keys p, others h)

distinct_is : (keys : List (List ℕ)) → is_distinct keys ≡ true → IsDistinct bytes_eq keys
unfolding is_distinct IsDistinct
distinct_is [] h = tt
distinct_is (key ∷ keys) h = distinct_more (list_any (bytes_eq key) keys) key keys refl (distinct_is keys) h

abbrev AreReads : List ReadOne → Type 0
AreReads reads = (reads ≢ []) × IsDistinct bytes_eq (keys_of reads)

some_keys : (keys : List (List ℕ)) (reads : List ReadOne) → keys ≢ [] → keys_of reads ≡ keys → reads ≢ []
some_keys keys reads some same e = some (sym same ∙ ap keys_of e)

distinct_reads : (b : Bool) (keys froms : List (List ℕ)) → is_distinct keys ≡ b → keys ≢ [] → (reads : List ReadOne) → cond b (each_from keys froms) (Err Unsupported) ≡ Ok reads → AreReads reads
distinct_reads true keys froms h some reads e =
    let same = keys_are keys froms reads e in
    (some_keys keys reads some same, subst (IsDistinct bytes_eq) (sym same) (distinct_is keys h))
distinct_reads false keys froms h some reads e = absurd cc

-- half of two words or more isn't empty
half_some : (words : List (List ℕ)) → nat_lt 0 (length words) ≡ true → (length words % 2 == 0) ≡ true → take (length words / 2) words ≢ []
half_some words h k e =
    let none : length (take (length words / 2) words) ≡ 0 = ap length e in
    let even : length words % 2 ≡ 0 = grind (arith, nat_tests) in
    let more : 0 < length words = grind (arith, nat_tests) in
    absurd (omega (arith, length-take (length words / 2) words))

both_true : (a b : Bool) → (a && b) ≡ true → (a ≡ true) × (b ≡ true)
both_true true b h = (refl, h)
both_true false b h = absurd cc

even_reads : (b : Bool) (words : List (List ℕ)) → (nat_lt 0 (length words) && length words % 2 == 0) ≡ b → (reads : List ReadOne) → cond b (keys_and_starts (take (length words / 2) words) (drop (length words / 2) words)) (Err Syntax) ≡ Ok reads → AreReads reads
even_reads true words h reads e =
    let both = both_true (nat_lt 0 (length words)) (length words % 2 == 0) h in
    let keys = take (length words / 2) words in
    distinct_reads (is_distinct keys) keys (drop (length words / 2) words) refl (half_some words both.0 both.1) reads e
even_reads false words h reads e = absurd cc

streams_are : Always AreReads streams
unfolding streams
streams_are words reads e = even_reads (nat_lt 0 (length words) && length words % 2 == 0) words refl reads e

group_read_formed : (who : Reader) (options : ReadOptions) (read : Result (List ReadOne) Fault) → ((reads : List ReadOne) → read ≡ Ok reads → AreReads reads) → (y : Command) → read_group who options read ≡ Ok y → IsWellFormed y
group_read_formed who options (Ok reads) h y e =
    let made : Command = command.ReadGroup (record { group = who.group; consumer = who.consumer; limit = options.limit; block = options.block; noack = options.noack; reads = reads }) in
    let same : made ≡ y = cc in subst IsWellFormed same (h reads refl)
group_read_formed who options (Err fault) h y e = absurd cc

behind_formed : (options : ReadOptions) (reader : Option Reader) → Always IsWellFormed (behind_streams options reader)
behind_formed options None words y e = absurd cc
behind_formed options (Some who) words y e = group_read_formed who options (streams words) (λ reads g. streams_are words reads g) y e

named_formed : (b : Bool) (options : ReadOptions) (words : List (List ℕ)) (y : Command) → cond b (behind_streams options options.reader words) (Err Syntax) ≡ Ok y → IsWellFormed y
named_formed true options words y e = behind_formed options options.reader words y e
named_formed false options words y e = absurd cc

pub xreadgroup_formed : Always IsWellFormed xreadgroup
unfolding xreadgroup
xreadgroup_formed = after_any IsWellFormed (many read_option no_read_options) _ (λ options. after_any IsWellFormed word _ (λ name words y e. named_formed (is_word (codes "streams") name) options words y e))
