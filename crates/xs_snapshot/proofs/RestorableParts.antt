-- What is restorable stays so while it is built.
use Rattle.std.proofs.Common.{◌≡◌, ℕ, Bool, true, false, cond, not, List, [], ◌∷◌, ◌++◌, Option, Some, is_some, sym, ap, subst, ◌∙◌, refl}
use Rattle.std.specs.List.{AllByRecursion}
use Rattle.std.proofs.lemmas.Bool.{false≢true}
use Rattle.std.proofs.lemmas.List.{map-append}
use Rattle.std.specs.Ordering.{eq_by_cmp}
use Rattle.xs_bytes.specs.SortedMap.{NameMap, get}
use Rattle.xs_bytes.proofs.SortedMaps.{get-empty, get-insert_by}
use Rattle.xs_stream.specs.declared.id.Id.{Id}
use Rattle.xs_stream.specs.declared.field.Field.{Field}
use Rattle.xs_stream.specs.Id.{id_cmp, is_below, zero_id}
use Rattle.xs_stream.specs.StreamContent.{AllAbove, AllUpTo, Ascends, ids_of}
use Rattle.xs_stream.proofs.InOrder.{above-push, ascends-push}
use Rattle.xs_stream.proofs.Order.{below-trans}
use Rattle.xs_group.specs.GroupState.{GroupState, RowState, ids_total, is_same_name, has_name, new_group, with_consumer, last_of}
use Rattle.xs_group.specs.Indexes.{is_owner}
use Rattle.xs_group.specs.NextRow.{is_next_row, with_row}
use Rattle.xs_group.proofs.NextRows.{up_to-next}
use Rattle.xs_keys.specs.Event.{Bytes, Entries}
use Rattle.xs_keys.specs.NextName.{is_past_names}
use Rattle.xs_keys.proofs.NameMaps.{get-insert, is_same_name-eq}
use Rattle.xs_keys.proofs.LastNames.{none-past, first_holds, second_holds}
use Rattle.std.specs.Prelude.{Result, Ok, Err, IfOk, OnErr}
use Rattle.std.specs.declared.alloc.AllocError.{AllocError}
use Rattle.xs_snapshot.specs.NextPiece.{last_id}
use Rattle.xs_snapshot.specs.SoFar.{IsGroupSoFar}
use Rattle.xs_snapshot.specs.Restorable.{IsRestorableGroup}

pub group-new : (cursor : Id) → IsRestorableGroup (new_group cursor)
group-new cursor = record {
  of_consumers = λ name x h. absurd (false≢true (ap (λ r. is_owner r name) (sym (get-empty id_cmp x)) ∙ h));
  up_to_cursor = λ x h. absurd (false≢true (ap is_some (sym (get-empty id_cmp x)) ∙ h));
}

kept : (b : Bool) (moment : ℕ) (o : Option ℕ) → is_some o ≡ true → is_some (cond b (Some moment) o) ≡ true
kept true moment o h = refl
kept false moment o h = h

pub group-consumer : (name : Bytes) (moment : ℕ) (group : GroupState) → is_past_names name group.consumers ≡ true → IsRestorableGroup group → IsRestorableGroup (with_consumer name moment group)
group-consumer name moment group past is =
    let new : has_name group.consumers name ≡ false = rw (none-past group.consumers name past) refl in
    record {
      of_consumers = λ n x h. rw new (ap is_some (get-insert group.consumers name moment n) ∙ kept (is_same_name n name) moment (get group.consumers n) (is.of_consumers n x h));
      up_to_cursor = is.up_to_cursor;
    }

not-false : (b : Bool) → not b ≡ true → b ≡ false
not-false true h = absurd (false≢true h)
not-false false h = refl

pub group-row : (id : Id) (row : RowState) (group : GroupState) → is_next_row row.consumer id group ≡ true → IsRestorableGroup group → IsRestorableGroup (with_row id row group)
group-row id row group next is =
    let named : has_name group.consumers row.consumer ≡ true = first_holds _ _ next in
    let up : is_below group.cursor id ≡ false = not-false _ (first_holds _ _ (second_holds _ _ next)) in
    record {
      of_consumers = λ name x h. by name x named (eq_by_cmp id_cmp x id) (ap (λ (r : Option RowState). is_owner r name) (sym (get-insert_by ids_total group.rows id row x)) ∙ h);
      up_to_cursor = up_to-next group.cursor id row group.rows is.up_to_cursor up;
    } where
      by : (name : Bytes) (x : Id) → has_name group.consumers row.consumer ≡ true → (b : Bool) → is_owner (cond b (Some row) (get group.rows x)) name ≡ true → has_name group.consumers name ≡ true
      by name x named true h = subst (λ n. has_name group.consumers n ≡ true) (is_same_name-eq row.consumer name h) named
      by name x named false h = is.of_consumers name x h

-- whether a row was inserted or not
pub row-so_far : (result : Result Bool AllocError) (last : Option Bytes) (old new : GroupState) (id : Id) (row : RowState) → IsGroupSoFar last old → IfOk result (λ put. put ≡ is_next_row row.consumer id old)
    → IfOk result (λ put. put ≡ true → new ≡ with_row id row old) → IfOk result (λ put. put ≡ false → new ≡ old) → OnErr result (new ≡ old) → IsGroupSoFar last new
row-so_far (Ok true) last old new id row so_far next put refused err = subst (IsGroupSoFar last) (sym (put refl)) (record { last_is = so_far.last_is; restorable = group-row id row old (sym next) so_far.restorable })
row-so_far (Ok false) last old new id row so_far next put refused err = subst (IsGroupSoFar last) (sym (refused refl)) so_far
row-so_far (Err e) last old new id row so_far next put refused err = subst (IsGroupSoFar last) (sym err) so_far

-- ---- entries

last-above : (top x : Id) (ids : List Id) → is_below top x ≡ true → AllAbove top ids → is_below top (last_of x ids) ≡ true
last-above top x [] above all = above
last-above top x (y ∷ ys) above all = last-above top y ys all.0 all.1

next-above : (ids : List Id) (id : Id) → AllAbove zero_id ids → is_below (last_of zero_id ids) id ≡ true → is_below zero_id id ≡ true
next-above [] id all h = h
next-above (x ∷ xs) id all h = below-trans zero_id (last_of x xs) id (last-above zero_id x xs all.0 all.1) h

pub entry-above : (entries : Entries) (id : Id) (fields : List Field) → AllAbove zero_id (ids_of entries) → is_below (last_id entries) id ≡ true → AllAbove zero_id (ids_of (entries ++ (id, fields) ∷ []))
entry-above entries id fields all next =
    subst (AllAbove zero_id) (sym (map-append (λ (e : Id × List Field). e.0) entries ((id, fields) ∷ []))) (above-push zero_id (ids_of entries) id all (next-above (ids_of entries) id all next))

pub entry-ascends : (entries : Entries) (top id : Id) (fields : List Field) → Ascends (ids_of entries) → AllUpTo top (ids_of entries) → is_below top id ≡ true → Ascends (ids_of (entries ++ (id, fields) ∷ []))
entry-ascends entries top id fields ascends up above =
    subst Ascends (sym (map-append (λ (e : Id × List Field). e.0) entries ((id, fields) ∷ []))) (ascends-push (ids_of entries) top id ascends up above)

-- ---- lists

pub all-more : {A : Type 0} (P : A → Type 0) (xs : List A) (x : A) → AllByRecursion P xs → P x → AllByRecursion P (xs ++ x ∷ [])
all-more P [] x all one = (one, tt)
all-more P (y ∷ ys) x all one = (all.0, all-more P ys x all.1 one)

-- whether a value was inserted after the others or not
pub all-pushed : {X : Type 0} (P : X → Type 0) (result : Result Bool AllocError) (old new : NameMap X) (e : Bytes × X) → IfOk result (λ put. put ≡ true → new.entries ≡ old.entries ++ e ∷ [])
    → IfOk result (λ put. put ≡ false → new ≡ old) → OnErr result (new ≡ old) → P e.1 → AllByRecursion (λ x. P x.1) old.entries → AllByRecursion (λ x. P x.1) new.entries
all-pushed {X} P (Ok true) old new e put refused err one all = subst (AllByRecursion (λ (x : Bytes × X). P x.1)) (sym (put refl)) (all-more (λ (x : Bytes × X). P x.1) old.entries e all one)
all-pushed {X} P (Ok false) old new e put refused err one all = subst (λ (m : NameMap X). AllByRecursion (λ x. P x.1) m.entries) (sym (refused refl)) all
all-pushed {X} P (Err error) old new e put refused err one all = subst (λ (m : NameMap X). AllByRecursion (λ x. P x.1) m.entries) (sym err) all
