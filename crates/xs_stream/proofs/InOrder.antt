-- Lists of entries in the order of their ids: how an addition, a deletion and a trim change them.
use Rattle.std.proofs.Common.{◌≡◌, ℕ, ◌+◌, ◌-◌, ◌<◌, ◌≤◌, suc, Bool, true, false, not, ◌&&◌, ◌||◌, cond, List, [], ◌∷◌}
use Rattle.std.proofs.Common.{◌++◌, length, filter, drop, take, ◌⊎◌, inl, inr, zero, leb, Option, Some, None, sym, ap}
use Rattle.std.proofs.Common.{◌∙◌, refl, arith, subst}
use Rattle.std.proofs.lemmas.Bool.Decides.{nat_tests}
use Rattle.std.proofs.lemmas.List.Folds.{list_any-append}
use Rattle.std.proofs.Math.Bool.{or-false}
use Rattle.std.proofs.Math.Seq.{drop-nil, take-append_seam}
use Rattle.std.proofs.lemmas.List.{take_all, append-nil}
use Rattle.std.specs.Map.{remove_entry}
use Rattle.std.specs.Option.{option_map}
use Rattle.std.specs.List.{slice_get}
use Rattle.std.specs.BTreeMap.Range.{range_contains}
use Rattle.std.specs.declared.ops.Bound.TheVariants.{Included}
use Rattle.xs_stream.specs.declared.range.Range.{Range}
use Rattle.xs_stream.specs.StreamContent.{is_within, count_above, ids_of, AllAbove, Ascends, AllUpTo}
use Rattle.xs_stream.specs.StreamContent.{without, entries_after_trim, up_to_limit}
use Rattle.xs_stream.specs.declared.id.Id.{Id}
use Rattle.xs_stream.specs.declared.field.Field.{Field}
use Rattle.xs_stream.specs.declared.trim.Trim.TheVariants.{MaxLen, MinId}
use Rattle.xs_stream.specs.Id.{id_cmp, is_below, is_same_id, has_id, zero_id}
use Rattle.xs_stream.specs.ConsistentStream.{AreValid, AllIds, IsId}
use Rattle.xs_stream.proofs.Order.{is_same_id-eq, is_same_id-refl, is_same_id-symm, below-not_same, below-not_back}
use Rattle.xs_stream.proofs.Order.{below-irrefl}
use Rattle.xs_stream.proofs.Order.{up_to-below, not_below-above, le-not_below, below-not_below, not_above-trans}

-- ---- an addition

pub ids_of-append : (es fs : List (Id × List Field)) → ids_of (es ++ fs) ≡ ids_of es ++ ids_of fs
ids_of-append [] fs = refl
ids_of-append (e ∷ es) fs = ap (λ rest. e.0 ∷ rest) (ids_of-append es fs)

pub above-push : (x : Id) (ids : List Id) (id : Id) → AllAbove x ids → is_below x id ≡ true → AllAbove x (ids ++ id ∷ [])
above-push x [] id a h = (h, tt)
above-push x (y ∷ ys) id a h = (a.0, above-push x ys id a.1 h)

-- ids up to the top, and then one above it
pub ascends-push : (ids : List Id) (top id : Id) → Ascends ids → AllUpTo top ids → is_below top id ≡ true → Ascends (ids ++ id ∷ [])
ascends-push [] top id a up h = (tt, tt)
ascends-push (x ∷ xs) top id a up h =
    (above-push x xs id a.0 (up_to-below top x id up.0 h), ascends-push xs top id a.1 up.1 h)

pub up_to-push : (ids : List Id) (top id : Id) → AllUpTo top ids → is_below top id ≡ true → AllUpTo id (ids ++ id ∷ [])
up_to-push [] top id up h = (below-irrefl id, tt)
up_to-push (x ∷ xs) top id up h = (below-not_back x id (up_to-below top x id up.0 h), up_to-push xs top id up.1 h)

-- what isn't above the top isn't above a higher id
pub up_to-higher : (ids : List Id) (top id : Id) → AllUpTo top ids → is_below top id ≡ true → AllUpTo id ids
up_to-higher [] top id up h = tt
up_to-higher (x ∷ xs) top id up h = (below-not_back x id (up_to-below top x id up.0 h), up_to-higher xs top id up.1 h)

-- nor above one that isn't lower
pub up_to-not_lower : (ids : List Id) (top id : Id) → AllUpTo top ids → is_below id top ≡ false → AllUpTo id ids
up_to-not_lower [] top id up h = tt
up_to-not_lower (x ∷ xs) top id up h = (not_above-trans id top x h up.0, up_to-not_lower xs top id up.1 h)

pub ids-push : (ids : List Id) (id : Id) → AllIds ids → IsId id → AllIds (ids ++ id ∷ [])
ids-push [] id a h = (h, tt)
ids-push (x ∷ xs) id a h = (a.0, ids-push xs id a.1 h)

-- ---- a filter of entries

module _ (p : Id × List Field → Bool) where
  pub above-filter : (x : Id) (es : List (Id × List Field)) → AllAbove x (ids_of es) → AllAbove x (ids_of (filter p es))
  above-filter x [] a = tt
  above-filter x (e ∷ es) a =
      elim (p e) as (λ b. AllAbove x (ids_of (cond b (e ∷ filter p es) (filter p es)))) [
        | true ↦ (a.0, above-filter x es a.1)
        | false ↦ above-filter x es a.1
      ]

  pub ascends-filter : (es : List (Id × List Field)) → Ascends (ids_of es) → Ascends (ids_of (filter p es))
  ascends-filter [] a = tt
  ascends-filter (e ∷ es) a =
      elim (p e) as (λ b. Ascends (ids_of (cond b (e ∷ filter p es) (filter p es)))) [
        | true ↦ (above-filter e.0 es a.0, ascends-filter es a.1)
        | false ↦ ascends-filter es a.1
      ]

  pub up_to-filter : (top : Id) (es : List (Id × List Field)) → AllUpTo top (ids_of es) → AllUpTo top (ids_of (filter p es))
  up_to-filter top [] a = tt
  up_to-filter top (e ∷ es) a =
      elim (p e) as (λ b. AllUpTo top (ids_of (cond b (e ∷ filter p es) (filter p es)))) [
        | true ↦ (a.0, up_to-filter top es a.1)
        | false ↦ up_to-filter top es a.1
      ]

  pub ids-filter : (es : List (Id × List Field)) → AllIds (ids_of es) → AllIds (ids_of (filter p es))
  ids-filter [] a = tt
  ids-filter (e ∷ es) a =
      elim (p e) as (λ b. AllIds (ids_of (cond b (e ∷ filter p es) (filter p es)))) [
        | true ↦ (a.0, ids-filter es a.1)
        | false ↦ ids-filter es a.1
      ]

-- a test that is true of each entry leaves the list unchanged
pub filter-same_above : (id : Id) (es : List (Id × List Field)) → AllAbove id (ids_of es) → filter (λ e. not (is_same_id id e.0)) es ≡ es
filter-same_above id [] a = refl
filter-same_above id (e ∷ es) a = rw (below-not_same id e.0 a.0) (ap (λ rest. e ∷ rest) (filter-same_above id es a.1))

-- ---- a deletion

pub remove-filter : (id : Id) (es : List (Id × List Field)) → Ascends (ids_of es) → remove_entry (is_same_id id) es ≡ filter (λ e. not (is_same_id id e.0)) es
remove-filter id [] a = refl
remove-filter id (e ∷ es) a = by (remove-filter id es a.1) (is_same_id id e.0) refl where
  by : remove_entry (is_same_id id) es ≡ filter (λ f. not (is_same_id id f.0)) es → (t : Bool) → is_same_id id e.0 ≡ t → cond t es (e ∷ remove_entry (is_same_id id) es) ≡ cond (not t) (e ∷ filter (λ f. not (is_same_id id f.0)) es) (filter (λ f. not (is_same_id id f.0)) es)
  by rest true h = sym (filter-same_above id es (subst (λ x. AllAbove x (ids_of es)) (sym (is_same_id-eq id e.0 h)) a.0))
  by rest false h = ap (λ left. e ∷ left) rest

or_not : (b c : Bool) → not (b || c) ≡ (not b && not c)
or_not true c = refl
or_not false c = refl

-- a filter after a filter is one filter
pub filter-filter : {X : Type 0} (p q r : X → Bool) → ((x : X) → r x ≡ (p x && q x)) → (xs : List X) → filter q (filter p xs) ≡ filter r xs
filter-filter p q r h [] = refl
filter-filter {X} p q r h (x ∷ xs) = rw (h x) (by (filter-filter p q r h xs) (p x) (q x) refl) where
  by : filter q (filter p xs) ≡ filter r xs → (b c : Bool) → q x ≡ c → filter q (cond b (x ∷ filter p xs) (filter p xs)) ≡ cond (b && c) (x ∷ filter r xs) (filter r xs)
  by rest true true f = rw f (ap (λ left. x ∷ left) rest)
  by rest true false f = rw f rest
  by rest false c f = rest

-- filters by tests that agree on each element
pub filter-ids : (p q : Id → Bool) (es : List (Id × List Field)) → ((x : Id) → p x ≡ q x) → filter (λ e. p e.0) es ≡ filter (λ e. q e.0) es
filter-ids p q [] h = refl
filter-ids p q (e ∷ es) h = rw (h e.0) (ap (λ rest. cond (q e.0) (e ∷ rest) rest) (filter-ids p q es h))

pub without-none : (es : List (Id × List Field)) → without [] es ≡ es
without-none [] = refl
without-none (e ∷ es) = ap (λ rest. e ∷ rest) (without-none es)

-- one id more is named
pub named-more : (ids : List Id) (id x : Id) → has_id (ids ++ id ∷ []) x ≡ (has_id ids x || is_same_id x id)
named-more ids id x = list_any-append (is_same_id x) ids (id ∷ []) ∙ ap (λ b. has_id ids x || b) (or-false (is_same_id x id))

-- one deletion after others
pub without-more : (ids : List Id) (id : Id) (es : List (Id × List Field)) → Ascends (ids_of es) → remove_entry (is_same_id id) (without ids es) ≡ without (ids ++ id ∷ []) es
without-more ids id es a =
    remove-filter id (without ids es) (ascends-filter (λ e. not (has_id ids e.0)) es a)
    ∙ filter-filter (λ (e : Id × List Field). not (has_id ids e.0)) (λ e. not (is_same_id id e.0)) (λ e. not (has_id (ids ++ id ∷ []) e.0))
    (λ e. one_more e.0) es where
      one_more : (x : Id) → not (has_id (ids ++ id ∷ []) x) ≡ (not (has_id ids x) && not (is_same_id id x))
      one_more x = ap not (list_any-append (is_same_id x) ids (id ∷ [])) ∙ ap (λ b. not (has_id ids x || b)) (or-false (is_same_id x id) ∙ is_same_id-symm x id) ∙ or_not (has_id ids x) (is_same_id id x)

-- ---- a trim

-- if all are above low or at it, none is below it
none_below : (low : Id) (x : Id) (es : List (Id × List Field)) → is_below x low ≡ false → AllAbove x (ids_of es) → filter (λ e. not (is_below e.0 low)) es ≡ es
none_below low x [] h a = refl
none_below low x (e ∷ es) h a = rw (not_below-above x low e.0 h a.0) (ap (λ rest. e ∷ rest) (none_below low x es h a.1))

none_counted : (low : Id) (x : Id) (es : List (Id × List Field)) → is_below x low ≡ false → AllAbove x (ids_of es) → length (filter (λ e. is_below e.0 low) es) ≡ 0
none_counted low x [] h a = refl
none_counted low x (e ∷ es) h a = rw (not_below-above x low e.0 h a.0) (none_counted low x es h a.1)

-- MINID drops as many from the front as there are below it
pub trimmed-min_id : (low : Id) (es : List (Id × List Field)) → Ascends (ids_of es) → entries_after_trim (MinId low) es ≡ drop (length (filter (λ e. is_below e.0 low) es)) es
trimmed-min_id low [] a = refl
trimmed-min_id low (e ∷ es) a = by (trimmed-min_id low es a.1) (is_below e.0 low) refl where
  by : entries_after_trim (MinId low) es ≡ drop (length (filter (λ f. is_below f.0 low) es)) es → (t : Bool) → is_below e.0 low ≡ t → cond (not t) (e ∷ entries_after_trim (MinId low) es) (entries_after_trim (MinId low) es) ≡ drop (length (cond t (e ∷ filter (λ f. is_below f.0 low) es) (filter (λ f. is_below f.0 low) es))) (e ∷ es)
  by rest true h = rest
  by rest false h = rw (none_counted low e.0 es h a.0) (ap (λ rest. e ∷ rest) (none_below low e.0 es h a.0))

length-ids_of : (es : List (Id × List Field)) → length (ids_of es) ≡ length es
length-ids_of [] = refl
length-ids_of (e ∷ es) = ap suc (length-ids_of es)

all_pass : (x : Id) (ids : List Id) → AllAbove x ids → filter (λ y. is_below x y) ids ≡ ids
all_pass x [] a = refl
all_pass x (y ∷ ys) a = rw a.0 (ap (λ rest. y ∷ rest) (all_pass x ys a.1))

-- above the first are all the others
count_above-first : (e : Id × List Field) (es : List (Id × List Field)) → AllAbove e.0 (ids_of es) → count_above e.0 (ids_of (e ∷ es)) ≡ length es
count_above-first e es a = rw (below-irrefl e.0) (ap length (all_pass e.0 (ids_of es) a) ∙ length-ids_of es)

-- the first isn't above a later one
keep_later : (n : ℕ) (e : Id × List Field) (all fs : List (Id × List Field)) → AllAbove e.0 (ids_of fs)
    → filter (λ f. not (leb n (count_above f.0 (ids_of (e ∷ all))))) fs ≡ filter (λ f. not (leb n (count_above f.0 (ids_of all)))) fs
keep_later n e all [] a = refl
keep_later n e all (f ∷ fs) a =
    rw (below-not_back e.0 f.0 a.0) (ap (λ rest. cond (not (leb n (count_above f.0 (ids_of all)))) (f ∷ rest) rest) (keep_later n e all fs a.1))

-- MAXLEN drops the surplus from the front
pub trimmed-max_len : (n : ℕ) (es : List (Id × List Field)) → Ascends (ids_of es) → entries_after_trim (MaxLen n) es ≡ drop (length es - n) es
trimmed-max_len n [] a = sym (drop-nil (0 - n))
trimmed-max_len n (e ∷ es) a = rw (count_above-first e es a.0, keep_later n e es es a.0) (by (trimmed-max_len n es a.1) (leb n (length es)) refl) where
  by : filter (λ f. not (leb n (count_above f.0 (ids_of es)))) es ≡ drop (length es - n) es → (t : Bool) → leb n (length es) ≡ t → cond (not t) (e ∷ filter (λ f. not (leb n (count_above f.0 (ids_of es)))) es) (filter (λ f. not (leb n (count_above f.0 (ids_of es)))) es) ≡ drop (suc (length es) - n) (e ∷ es)
  by rest true h = let some : n ≤ length es = grind (arith, nat_tests) in let more : suc (length es) - n ≡ suc (length es - n) = omega arith in rw more rest
  by rest false h =
      let few : length es < n = grind (arith, nat_tests) in
      let none : suc (length es) - n ≡ 0 = omega arith in
      let none_left : length es - n ≡ 0 = omega arith in
      rw none (ap (λ left. e ∷ left) (rest ∙ ap (λ k. drop k es) none_left))

pub ids_of-filter : (p : Id → Bool) (es : List (Id × List Field)) → ids_of (filter (λ e. p e.0) es) ≡ filter p (ids_of es)
ids_of-filter p [] = refl
ids_of-filter p (e ∷ es) = by (ids_of-filter p es) (p e.0) where
  by : ids_of (filter (λ f. p f.0) es) ≡ filter p (ids_of es) → (t : Bool) → ids_of (cond t (e ∷ filter (λ f. p f.0) es) (filter (λ f. p f.0) es)) ≡ cond t (e.0 ∷ filter p (ids_of es)) (filter p (ids_of es))
  by rest true = ap (λ left. e.0 ∷ left) rest
  by rest false = rest

pub length-filter-le : (p : Id × List Field → Bool) (es : List (Id × List Field)) → length (filter p es) ≤ length es
length-filter-le p [] = omega arith
length-filter-le p (e ∷ es) = by (length-filter-le p es) (p e) where
  by : length (filter p es) ≤ length es → (t : Bool) → length (cond t (e ∷ filter p es) (filter p es)) ≤ suc (length es)
  by rest true = omega arith
  by rest false = omega arith

-- ---- a stream stays valid

pub valid-filter : (top : Id) (es : List (Id × List Field)) (p : Id × List Field → Bool) → AreValid top es → AreValid top (filter p es)
valid-filter top es p law = record {
  consistent = record {
    ascends = ascends-filter p es law.consistent.ascends;
    up_to_top = up_to-filter p top es law.consistent.up_to_top;
  };
  top_is_id = law.top_is_id;
  are_ids = ids-filter p es law.are_ids;
  above_zero = above-filter p zero_id es law.above_zero;
}

-- nothing is below 0-0
zero-least : (x : Id) → is_below x zero_id ≡ false
zero-least x = grind (arith, nat_tests)

pub valid-push : (top : Id) (es : List (Id × List Field)) (id : Id) (fields : List Field) → AreValid top es → is_below top id ≡ true → IsId id → AreValid id (es ++ (id, fields) ∷ [])
valid-push top es id fields law above fits =
    let ids = ids_of-append es ((id, fields) ∷ []) in
    record {
      consistent = record {
        ascends = rw ids (ascends-push (ids_of es) top id law.consistent.ascends law.consistent.up_to_top above);
        up_to_top = rw ids (up_to-push (ids_of es) top id law.consistent.up_to_top above);
      };
      top_is_id = fits;
      are_ids = rw ids (ids-push (ids_of es) id law.are_ids fits);
      above_zero = rw ids (above-push zero_id (ids_of es) id law.above_zero (up_to-below top zero_id id (zero-least top) above));
    }

-- ---- the first entry

pub first-removed : (es : List (Id × List Field)) (id : Id) → option_map (λ e. e.0) (slice_get es 0) ≡ Some id → remove_entry (is_same_id id) es ≡ drop 1 es
first-removed [] id h = let no = h in cc
first-removed (e ∷ es) id h =
    let same : e.0 ≡ id = cc in
    rw (same, is_same_id-refl id) refl

pub none-first : (es : List (Id × List Field)) → option_map (λ e. e.0) (slice_get es 0) ≡ None → es ≡ []
none-first [] h = refl
none-first (e ∷ es) h = let no = h in cc

-- if the first isn't below low, a trim to it drops nothing
pub trimmed-from : (low id : Id) (es : List (Id × List Field)) → Ascends (ids_of es) → option_map (λ e. e.0) (slice_get es 0) ≡ Some id → is_below id low ≡ false → entries_after_trim (MinId low) es ≡ es
trimmed-from low id [] a h k = refl
trimmed-from low id (e ∷ es) a h k =
    let same : e.0 ≡ id = cc in
    let first : is_below e.0 low ≡ false = ap (λ x. is_below x low) same ∙ k in
    rw first (ap (λ rest. e ∷ rest) (none_below low e.0 es first a.0))

-- if it is below low, the trim drops it
pub trimmed-later : (low id : Id) (es : List (Id × List Field)) → option_map (λ e. e.0) (slice_get es 0) ≡ Some id → is_below id low ≡ true → entries_after_trim (MinId low) (drop 1 es) ≡ entries_after_trim (MinId low) es
trimmed-later low id [] h k = refl
trimmed-later low id (e ∷ es) h k =
    let same : e.0 ≡ id = cc in
    let first : is_below e.0 low ≡ true = ap (λ x. is_below x low) same ∙ k in
    rw first refl

pub ascends-later : (es : List (Id × List Field)) → Ascends (ids_of es) → Ascends (ids_of (drop 1 es))
ascends-later [] a = tt
ascends-later (e ∷ es) a = a.1

pub one_fewer : (es : List (Id × List Field)) (id : Id) → option_map (λ e. e.0) (slice_get es 0) ≡ Some id → length (drop 1 es) + 1 ≡ length es
one_fewer [] id h = let no = h in absurd (cc)
one_fewer (e ∷ es) id h = omega arith

-- ---- a range

-- the test of a map's range is the one here
pub between-within : (range : Range) (x : Id) → range_contains id_cmp (Included range.low) (Included range.high) x ≡ is_within range x
between-within range x = ap (λ b. b && not (is_below range.high x)) (le-not_below range.low x)

pub and_yes : (t : Bool) → (t && true) ≡ t
and_yes true = refl
and_yes false = refl

-- a range whose low end is above its high end is empty
pub not_within : (range : Range) → is_below range.high range.low ≡ true → (x : Id) → is_within range x ≡ false
not_within range h x = by (is_below x range.low) refl where
  by : (t : Bool) → is_below x range.low ≡ t → (not t && not (is_below range.high x)) ≡ false
  by true e = refl
  by false e = ap not (below-not_below range.high range.low x h e)

pub limited-none : (limit : Option ℕ) → up_to_limit limit [] ≡ []
limited-none None = refl
limited-none (Some n) = drop-take n where
  drop-take : (n : ℕ) → ◌≡◌ {A = List Id} (take n []) []
  drop-take zero = refl
  drop-take (suc n) = refl

-- ---- a loop over ids up to a limit

-- ids that are all, or as many as the limit
pub taken : (xs ys all : List Id) (n : ℕ) → xs ++ ys ≡ all → length xs ≤ n → (ys ≡ []) ⊎ (n ≤ length xs) → xs ≡ take n all
taken xs ys all n e few (inl none) = let whole : xs ≡ all = sym (append-nil xs) ∙ ap (λ rest. xs ++ rest) (sym none) ∙ e in
    whole ∙ sym (take_all n all (subst (λ l. length l ≤ n) whole few))
taken xs ys all n e few (inr full) =
    let exact : length xs ≡ n = omega arith in
    sym (take-append_seam xs ys) ∙ ap (λ k. take k (xs ++ ys)) exact ∙ ap (take n) e
