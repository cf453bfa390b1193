-- A stream by looking back, and a stream step by step, are the same.
use Rattle.std.proofs.Common.{◌≡◌, Bool, true, false, not, cond, ◌&&◌, List, [], ◌∷◌, ◌++◌, filter, length, length-append, Option, Some, None}
use Rattle.std.proofs.Common.{Result, Ok, Err, is_ok, sym, ap, ◌∙◌, refl}
use Rattle.std.proofs.lemmas.List.{append-nil}
use Rattle.xs_stream.proofs.Order.{is_same_id-refl, below-irrefl, below-not_same, below-not_back, up_to-below}
use Rattle.xs_stream.proofs.Order.{not_above-trans}
use Rattle.xs_stream.proofs.Assigning.{assigned-above}
use Rattle.xs_stream.proofs.InOrder.{ids_of-append, ascends-push, ascends-filter, up_to-filter, filter-filter}
use Rattle.xs_keys.specs.Terms.{option_map_or, Id, Field, Trim, AddError, is_below, has_id, zero_id, id_of_addition}
use Rattle.xs_keys.specs.Terms.{is_trimmed, StreamState, ids_of, Ascends, AllUpTo, greatest}
use Rattle.xs_keys.specs.Life.{StreamEvent, add_entry, delete_entries, trim_entries, top_of, entry_of}
use Rattle.xs_keys.specs.Life.{entries_added_by, added_in, top, removes_id, is_present, present_entries, deleted_in, stream_of}
use Rattle.xs_keys.specs.ContentAfter.{stream_with, stream_after}

pub greatest-append : (a : Id) (xs ys : List Id) → greatest a (xs ++ ys) ≡ greatest (greatest a xs) ys
greatest-append a [] ys = refl
greatest-append a (x ∷ xs) ys = greatest-append (cond (is_below a x) x a) xs ys

-- it is not below the id that it began with
pub greatest-up : (a : Id) (xs : List Id) → is_below (greatest a xs) a ≡ false
greatest-up a [] = below-irrefl a
greatest-up a (x ∷ xs) = by (greatest-up x xs) (greatest-up a xs) (is_below a x) refl where
  by : is_below (greatest x xs) x ≡ false → is_below (greatest a xs) a ≡ false → (t : Bool) → is_below a x ≡ t → is_below (greatest (cond t x a) xs) a ≡ false
  by from_x from_a true h = not_above-trans (greatest x xs) x a from_x (below-not_back a x h)
  by from_x from_a false h = from_a

-- none of them is above it
pub up_to-greatest : (a : Id) (xs : List Id) → AllUpTo (greatest a xs) xs
up_to-greatest a [] = tt
up_to-greatest a (x ∷ xs) = (by (is_below a x) refl, up_to-greatest (cond (is_below a x) x a) xs) where
  by : (t : Bool) → is_below a x ≡ t → is_below (greatest (cond t x a) xs) x ≡ false
  by true h = greatest-up x xs
  by false h = not_above-trans (greatest a xs) a x (greatest-up a xs) h

pub up_to-top : (changes : List StreamEvent) → AllUpTo (top changes) (ids_of (added_in changes))
up_to-top changes = up_to-greatest zero_id (ids_of (added_in changes))

-- ---- ids ascend

-- what a result adds to a list that ascends up to the top
ascends-entry : (given : List (Id × List Field)) (t : Id) (r : Result Id AddError) (fields : List Field) → ((id : Id) → r ≡ Ok id → is_below t id ≡ true)
    → Ascends (ids_of given) → AllUpTo t (ids_of given) → Ascends (ids_of (given ++ entry_of r fields))
ascends-entry given t (Ok id) fields above a up = rw (ids_of-append given ((id, fields) ∷ [])) (ascends-push (ids_of given) t id a up (above id refl))
ascends-entry given t (Err e) fields above a up = rw (append-nil given) a

ascends-adds : (given : List (Id × List Field)) (t : Id) (change : StreamEvent) → Ascends (ids_of given) → AllUpTo t (ids_of given) → Ascends (ids_of (given ++ entries_added_by change t))
ascends-adds given t (add_entry now id fields trim) a up = ascends-entry given t (id_of_addition now t id) fields (λ x e. assigned-above now t id x e) a up
ascends-adds given t (delete_entries ids) a up = rw (append-nil given) a
ascends-adds given t (trim_entries trim) a up = rw (append-nil given) a

pub ascends-added : (changes : List StreamEvent) → Ascends (ids_of (added_in changes))
ascends-added [] = tt
ascends-added (change ∷ past) = ascends-adds (added_in past) (top past) change (ascends-added past) (up_to-top past)

pub ascends-present : (changes : List StreamEvent) → Ascends (ids_of (present_entries changes))
ascends-present changes = ascends-filter (λ e. is_present changes e.0) (added_in changes) (ascends-added changes)

pub up_to-present : (changes : List StreamEvent) → AllUpTo (top changes) (ids_of (present_entries changes))
up_to-present changes = up_to-filter (λ e. is_present changes e.0) (top changes) (added_in changes) (up_to-top changes)

-- ---- the step of the top

top-entry : (past : List StreamEvent) (r : Result Id AddError) (fields : List Field) (trim : Option Trim) → ((id : Id) → r ≡ Ok id → is_below (top past) id ≡ true)
    → top_of (added_in past ++ entry_of r fields) ≡ (stream_with r fields trim (stream_of past)).top
top-entry past (Ok id) fields trim above =
    ap (greatest zero_id) (ids_of-append (added_in past) ((id, fields) ∷ [])) ∙ greatest-append zero_id (ids_of (added_in past)) (id ∷ []) ∙ ap (λ b. cond b id (top past)) (above id refl)
top-entry past (Err e) fields trim above = ap top_of (append-nil (added_in past))

-- ---- the step of the entries in the stream

-- a new id is none of those added before
not_new : (t : Id) (r : Result Id AddError) (fields : List Field) (x : Id) → ((id : Id) → r ≡ Ok id → is_below t id ≡ true) → is_below t x ≡ false → has_id (ids_of (entry_of r fields)) x ≡ false
not_new t (Ok id) fields x above up = rw (below-not_same x id (up_to-below t x id up (above id refl))) refl
not_new t (Err e) fields x above up = refl

pub adds-not_new : (change : StreamEvent) (t x : Id) → is_below t x ≡ false → has_id (ids_of (entries_added_by change t)) x ≡ false
adds-not_new (add_entry now id fields trim) t x up = not_new t (id_of_addition now t id) fields x (λ y e. assigned-above now t id y e) up
adds-not_new (delete_entries ids) t x up = refl
adds-not_new (trim_entries trim) t x up = refl

-- a filter of entries up to t, by a test that differs only at ids above t
filter-up_to : (t : Id) (p q : Id → Bool) → ((x : Id) → is_below t x ≡ false → p x ≡ q x) → (es : List (Id × List Field)) → AllUpTo t (ids_of es) → filter (λ e. p e.0) es ≡ filter (λ e. q e.0) es
filter-up_to t p q same [] up = refl
filter-up_to t p q same (e ∷ es) up = rw (same e.0 up.0) (ap (λ rest. cond (q e.0) (e ∷ rest) rest) (filter-up_to t p q same es up.1))

filter-append : (p : Id × List Field → Bool) (xs ys : List (Id × List Field)) → filter p (xs ++ ys) ≡ filter p xs ++ filter p ys
filter-append p [] ys = refl
filter-append p (x ∷ xs) ys = by (filter-append p xs ys) (p x) where
  by : filter p (xs ++ ys) ≡ filter p xs ++ filter p ys → (t : Bool) → cond t (x ∷ filter p (xs ++ ys)) (filter p (xs ++ ys)) ≡ cond t (x ∷ filter p xs) (filter p xs) ++ filter p ys
  by rest true = ap (λ left. x ∷ left) rest
  by rest false = rest

-- the new entry is in the stream unless it is dropped at once
entry-is_present : (d : Id → Bool) (was : Id → Bool) (r : Result Id AddError) (fields : List Field)
    → filter (λ e. cond (d e.0) false (cond (has_id (ids_of (entry_of r fields)) e.0) true (was e.0))) (entry_of r fields) ≡ filter (λ e. not (d e.0)) (entry_of r fields)
entry-is_present d was (Ok id) fields = rw (is_same_id-refl id) (by (d id)) where
  by : (t : Bool) → cond {A = List (Id × List Field)} (cond t false true) ((id, fields) ∷ []) [] ≡ cond (not t) ((id, fields) ∷ []) []
  by true = refl
  by false = refl
entry-is_present d was (Err e) fields = refl

adds-is_present : (change : StreamEvent) (t : Id) (d was : Id → Bool)
    → filter (λ e. cond (d e.0) false (cond (has_id (ids_of (entries_added_by change t)) e.0) true (was e.0))) (entries_added_by change t) ≡ filter (λ e. not (d e.0)) (entries_added_by change t)
adds-is_present (add_entry now id fields trim) t d was = entry-is_present d was (id_of_addition now t id) fields
adds-is_present (delete_entries ids) t d was = refl
adds-is_present (trim_entries trim) t d was = refl

both_pass : (d s : Bool) → cond d false s ≡ (s && not d)
both_pass true true = refl
both_pass true false = refl
both_pass false true = refl
both_pass false false = refl

-- after a change the entries in the stream are those before and the new one, without those that the change drops
pub present-step : (change : StreamEvent) (past : List StreamEvent)
    → present_entries (change ∷ past) ≡ filter (λ e. not (removes_id change (top past) (ids_of (present_entries past ++ entries_added_by change (top past))) e.0)) (present_entries past ++ entries_added_by change (top past))
present-step change past =
    filter-append (λ e. is_present (change ∷ past) e.0) (added_in past) new
    ∙ ap (λ old. old ++ filter (λ e. is_present (change ∷ past) e.0) new) old_ones
    ∙ ap (λ rest. filter kept (present_entries past) ++ rest) (adds-is_present change (top past) d (is_present past))
    ∙ sym (filter-append kept (present_entries past) new)
  where
    new : List (Id × List Field)
    new = entries_added_by change (top past)

    d : Id → Bool
    d = removes_id change (top past) (ids_of (present_entries past ++ entries_added_by change (top past)))

    kept : Id × List Field → Bool
    kept = λ e. not (removes_id change (top past) (ids_of (present_entries past ++ entries_added_by change (top past))) e.0)

    old_ones : filter (λ e. is_present (change ∷ past) e.0) (added_in past) ≡ filter kept (present_entries past)
    old_ones =
        filter-up_to (top past) (is_present (change ∷ past)) (λ x. is_present past x && not (d x)) (λ x up. rw (adds-not_new change (top past) x up) (both_pass (d x) (is_present past x)))
        (added_in past) (up_to-top past)
        ∙ sym (filter-filter (λ (e : Id × List Field). is_present past e.0) kept (λ e. is_present past e.0 && not (d e.0)) (λ e. refl) (added_in past))

filter-all : (es : List (Id × List Field)) → filter (λ e. true) es ≡ es
filter-all [] = refl
filter-all (e ∷ es) = ap (λ rest. e ∷ rest) (filter-all es)

-- ---- the step of the stream

added-present : (r : Result Id AddError) (fields : List Field) (trim : Option Trim) (kept : StreamState)
    → filter (λ e. not (is_ok r && option_map_or (λ t. is_trimmed t (ids_of (kept.entries ++ entry_of r fields)) e.0) trim false)) (kept.entries ++ entry_of r fields) ≡ (stream_with r fields trim kept).entries
added-present (Ok id) fields None kept = filter-all (kept.entries ++ (id, fields) ∷ [])
added-present (Ok id) fields (Some trim) kept = refl
added-present (Err e) fields trim kept = filter-all (kept.entries ++ []) ∙ append-nil kept.entries

present-after : (change : StreamEvent) (past : List StreamEvent)
    → filter (λ e. not (removes_id change (top past) (ids_of (present_entries past ++ entries_added_by change (top past))) e.0)) (present_entries past ++ entries_added_by change (top past)) ≡ (stream_after change (stream_of past)).entries
present-after (add_entry now id fields trim) past = added-present (id_of_addition now (top past) id) fields trim (stream_of past)
present-after (delete_entries ids) past = rw (append-nil (present_entries past)) refl
present-after (trim_entries trim) past = rw (append-nil (present_entries past)) refl

top-after : (change : StreamEvent) (past : List StreamEvent) → top (change ∷ past) ≡ (stream_after change (stream_of past)).top
top-after (add_entry now id fields trim) past = top-entry past (id_of_addition now (top past) id) fields trim (λ x e. assigned-above now (top past) id x e)
top-after (delete_entries ids) past = ap top_of (append-nil (added_in past))
top-after (trim_entries trim) past = ap top_of (append-nil (added_in past))

-- ---- the steps of the counts

added-entry : (past : List StreamEvent) (r : Result Id AddError) (fields : List Field) (trim : Option Trim) → length (added_in past ++ entry_of r fields) ≡ (stream_with r fields trim (stream_of past)).added
added-entry past (Ok id) fields trim = length-append (added_in past) ((id, fields) ∷ [])
added-entry past (Err e) fields trim = ap length (append-nil (added_in past))

added-after : (change : StreamEvent) (past : List StreamEvent) → length (added_in (change ∷ past)) ≡ (stream_after change (stream_of past)).added
added-after (add_entry now id fields trim) past = added-entry past (id_of_addition now (top past) id) fields trim
added-after (delete_entries ids) past = ap length (append-nil (added_in past))
added-after (trim_entries trim) past = ap length (append-nil (added_in past))

deleted-entry : (past : List StreamEvent) (r : Result Id AddError) (fields : List Field) (trim : Option Trim) → greatest zero_id (deleted_in past) ≡ (stream_with r fields trim (stream_of past)).deleted
deleted-entry past (Ok id) fields trim = refl
deleted-entry past (Err e) fields trim = refl

deleted-after : (change : StreamEvent) (past : List StreamEvent) → greatest zero_id (deleted_in (change ∷ past)) ≡ (stream_after change (stream_of past)).deleted
deleted-after (add_entry now id fields trim) past = deleted-entry past (id_of_addition now (top past) id) fields trim
deleted-after (delete_entries ids) past = greatest-append zero_id (deleted_in past) (filter (has_id ids) (ids_of (present_entries past)))
deleted-after (trim_entries trim) past = refl

-- the stream after one more change is the stream changed by it
pub stream-step : (change : StreamEvent) (past : List StreamEvent) → stream_of (change ∷ past) ≡ stream_after change (stream_of past)
stream-step change past =
    let t = top-after change past in
    let l = present-step change past ∙ present-after change past in
    let n = added-after change past in
    let d = deleted-after change past in
    λ i. record { top = t i; entries = l i; added = n i; deleted = d i }
