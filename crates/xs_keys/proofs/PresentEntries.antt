-- Entries that a stream lends are those that are found by their ids.
use Rattle.std.proofs.Common.{◌≡◌, ℕ, ◌&&◌, eqb, arith, Bool, true, List, [], ◌∷◌, map}
use Rattle.std.proofs.Common.{Option, Some, sym, ap, ◌∙◌, refl}
use Rattle.std.proofs.lemmas.Bool.Decides.{nat_tests}
use Rattle.xs_stream.specs.declared.range.Range.{Range}
use Rattle.xs_stream.specs.StreamContent.{ids_of, fields_at, ids_within, entries_within}
use Rattle.xs_stream.specs.StreamContent.{up_to_limit}
use Rattle.xs_stream.specs.StreamContent.{IsEntryOf, AreEntriesOf}
use Rattle.xs_stream.proofs.Lending.{ids-within}
use Rattle.xs_keys.specs.Terms.{Id, Field}
use Rattle.xs_keys.specs.ReplyParts.{entry_reply, present_reply}

abbrev Entries : Type 0
Entries = List (Id × List Field)

map-found : (entries fs : Entries) → AreEntriesOf entries fs → map present_reply fs ≡ map (entry_reply entries) (ids_of fs)
map-found entries [] found = refl
map-found entries (f ∷ fs) found = rw found.0 (ap (λ rest. present_reply f ∷ rest) (map-found entries fs found.1))

-- the replies for the entries of a range
pub lent-within : (range : Range) (reversed : Bool) (limit : Option ℕ) (es : Entries) → AreEntriesOf es (entries_within range reversed limit es)
    → map present_reply (entries_within range reversed limit es) ≡ map (entry_reply es) (up_to_limit limit (ids_within range reversed es))
lent-within range reversed limit es found =
    map-found es (entries_within range reversed limit es) found ∙ ap (map (entry_reply es)) (ids-within range reversed limit es)

same-id : (a b : Id) → (eqb a.ms b.ms && eqb a.seq b.seq) ≡ true → a ≡ b
same-id a b e =
    let ms : a.ms ≡ b.ms = grind (arith, nat_tests) in
    let seq : a.seq ≡ b.seq = grind (arith, nat_tests) in
    λ i. record { ms = ms i; seq = seq i }

-- the reply for an entry that is lent is the one for its id
pub lent-reply : (entries : Entries) (e : Id × List Field) (own id : Id) → IsEntryOf entries e → own ≡ e.0 → (eqb own.ms id.ms && eqb own.seq id.seq) ≡ true → present_reply e ≡ entry_reply entries id
lent-reply entries e own id is f g =
    let same : e.0 ≡ id = sym f ∙ same-id own id g in
    let found : fields_at entries id ≡ Some e.1 = ap (fields_at entries) (sym same) ∙ is in
    rw (found, same) refl
