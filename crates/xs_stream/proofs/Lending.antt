-- Entries that a stream lends are found by their ids.
use Rattle.std.proofs.Common.{ℕ, ◌<◌, zero, suc, get_or, length, arith, Bool, true, false, cond, List, [], ◌∷◌, filter}
use Rattle.std.proofs.Common.{◌≡◌, ◌++◌, map, take, reverse, Option, Some, None, sym, ap, ◌∙◌, refl}
use Rattle.std.proofs.lemmas.List.{take-map, reverse-append, map-append}
use mathlib.Core.List.{reverse_aux}
use Rattle.xs_stream.specs.declared.id.Id.{Id}
use Rattle.xs_stream.specs.declared.field.Field.{Field}
use Rattle.xs_stream.specs.declared.range.Range.{Range}
use Rattle.xs_stream.specs.StreamContent.{ids_of, AllAbove, Ascends, is_within, up_to_limit, ids_within, all_within}
use Rattle.xs_stream.specs.StreamContent.{entries_within, IsEntryOf, AreEntriesOf}
use Rattle.xs_stream.proofs.Order.{below-not_same, is_same_id-refl, is_same_id-symm}
use Rattle.xs_stream.proofs.InOrder.{ids_of-filter}

abbrev Entries : Type 0
Entries = List (Id × List Field)

found-later : (e : Id × List Field) (es fs : Entries) → AllAbove e.0 (ids_of fs) → AreEntriesOf es fs → AreEntriesOf (e ∷ es) fs
found-later e es [] above found = tt
found-later e es (f ∷ fs) above found =
    (rw (is_same_id-symm f.0 e.0, below-not_same e.0 f.0 above.0) found.0, found-later e es fs above.1 found.1)

-- if the ids ascend, each entry is found by its id
all-found : (es : Entries) → Ascends (ids_of es) → AreEntriesOf es es
all-found [] a = tt
all-found (e ∷ es) a = (rw (is_same_id-refl e.0) refl, found-later e es es a.0 (all-found es a.1))

found-filter : (test : Id × List Field → Bool) (entries fs : Entries) → AreEntriesOf entries fs → AreEntriesOf entries (filter test fs)
found-filter test entries [] found = tt
found-filter test entries (f ∷ fs) found =
    elim (test f) as (λ t. AreEntriesOf entries (cond t (f ∷ filter test fs) (filter test fs))) [
      | true ↦ (found.0, found-filter test entries fs found.1)
      | false ↦ found-filter test entries fs found.1
    ]

found-take : (n : ℕ) (entries fs : Entries) → AreEntriesOf entries fs → AreEntriesOf entries (take n fs)
found-take zero entries fs found = tt
found-take (suc n) entries [] found = tt
found-take (suc n) entries (f ∷ fs) found = (found.0, found-take n entries fs found.1)

found-reverse : (entries fs : Entries) → AreEntriesOf entries fs → AreEntriesOf entries (reverse fs)
found-reverse entries fs found = onto fs [] found tt where
  onto : (fs gs : Entries) → AreEntriesOf entries fs → AreEntriesOf entries gs → AreEntriesOf entries (reverse_aux fs gs)
  onto [] gs found more = more
  onto (f ∷ fs) gs found more = onto fs (f ∷ gs) found.1 (found.0, more)

-- those within a range are found by their ids
pub within-found : (range : Range) (reversed : Bool) (limit : Option ℕ) (es : Entries) → Ascends (ids_of es) → AreEntriesOf es (entries_within range reversed limit es)
within-found range reversed limit es a = by reversed limit where
  found : AreEntriesOf es (filter (λ e. is_within range e.0) es)
  found = found-filter (λ e. is_within range e.0) es es (all-found es a)

  by : (reversed : Bool) (limit : Option ℕ) → AreEntriesOf es (entries_within range reversed limit es)
  by false None = found
  by false (Some n) = found-take n es _ found
  by true None = found-reverse es _ found
  by true (Some n) = found-take n es _ (found-reverse es _ found)

-- ---- one of those that are lent

pub is-lent : (entries lent : Entries) (k : ℕ) (d : Id × List Field) → k < length lent → AreEntriesOf entries lent → IsEntryOf entries (get_or lent k d)
is-lent entries [] k d h found = absurd (omega arith)
is-lent entries (e ∷ es) zero d h found = found.0
is-lent entries (e ∷ es) (suc k) d h found = is-lent entries es k d (omega arith) found.1

-- ---- their ids

map-reverse : {X Y : Type 0} (f : X → Y) (xs : List X) → map f (reverse xs) ≡ reverse (map f xs)
map-reverse f [] = refl
map-reverse f (x ∷ xs) =
    ap (map f) (reverse-append (x ∷ []) xs) ∙ map-append f (reverse xs) (x ∷ []) ∙ ap (λ front. front ++ f x ∷ []) (map-reverse f xs)
    ∙ sym (reverse-append (f x ∷ []) (map f xs))

all-ids : (range : Range) (reversed : Bool) (es : Entries) → ids_of (all_within range reversed es) ≡ ids_within range reversed es
all-ids range false es = ids_of-filter (is_within range) es
all-ids range true es =
    map-reverse (λ (e : Id × List Field). e.0) (filter (λ e. is_within range e.0) es) ∙ ap reverse (ids_of-filter (is_within range) es)

-- the ids of the entries of a range
pub ids-within : (range : Range) (reversed : Bool) (limit : Option ℕ) (es : Entries) → ids_of (entries_within range reversed limit es) ≡ up_to_limit limit (ids_within range reversed es)
ids-within range reversed None es = all-ids range reversed es
ids-within range reversed (Some n) es =
    sym (take-map (λ (e : Id × List Field). e.0) n (all_within range reversed es)) ∙ ap (take n) (all-ids range reversed es)
