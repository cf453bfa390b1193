-- The added entries by their places: what waits, what is pending with whom, and that all of them add up.
use Rattle.std.proofs.Common.{◌≡◌, ℕ, ◌+◌, Bool, true, false, cond, ◌&&◌, List, [], ◌∷◌, filter, map, length, Option}
use Rattle.std.proofs.Common.{Some, None, is_some, option_and_then, sym, ap, subst, ◌∙◌, refl, arith}
use Rattle.std.proofs.lemmas.Bool.{false≢true, or_left}
use Rattle.std.proofs.lemmas.List.{length-map}
use Rattle.xs_stream.specs.Id.{is_below, is_same_id, has_id}
use Rattle.xs_stream.proofs.Order.{is_same_id-eq, is_same_id-refl, is_same_id-symm, below-not_back}
use Rattle.xs_group.specs.GroupState.{RowState, is_same_name, new_ids, ids_of_consumer}
use Rattle.xs_keys.specs.Event.{History}
use Rattle.xs_keys.specs.Terms.{GroupState, Reply, Int, NullBulk, get, summary_of, option_map_or, with_some}
use Rattle.xs_keys.specs.Terms.{Id, ids_of, Ascends, AllAbove}
use Rattle.xs_keys.specs.Life.{StreamEvent, key_life, added_in, present_entries}
use Rattle.xs_keys.specs.GroupEvent.{GroupEvent, delivered_ids, cursor, rows_among, pending_row_at, rows}
use Rattle.xs_keys.specs.Owner.{last_assignee, owner}
use Rattle.xs_keys.specs.GroupLife.{GroupLife, group_life}
use Rattle.xs_keys.specs.Content.{Content, KeyState, IsGroupOfLife, GroupHolds, KeyHolds, IsContent}
use Rattle.xs_keys.specs.ReplyParts.{array, array_or_null, id_reply, reply_of_group, owner_reply, summary_reply}
use Rattle.xs_keys.specs.JobPlace.{Place, before_start, waiting, dropped, handed_out, pending, settled, place_of}
use Rattle.xs_keys.specs.JobPlace.{StandsAt, HasOnePlace}
use Rattle.xs_keys.specs.PlacesAddUp.{is_same_place, is_pending, jobs_at, PlacesAddUp, TellsPending}
use Rattle.xs_keys.proofs.Truths.{first_of, second_of, none_or}
use Rattle.xs_keys.proofs.IdLists.{ascends-where, has_id-where, not_above}
use Rattle.xs_keys.proofs.Streams.{ascends-added, ascends-present}
use Rattle.xs_keys.proofs.Deliveries.{PresentAscends, ascends-delivered}
use Rattle.xs_keys.proofs.Histories.{present-in-life}
use Rattle.xs_keys.proofs.Owners.{owner-row, of_row, owned-delivered}
use Rattle.xs_keys.proofs.IdsAtEvents.{Sees, sees-of, above-has, delivered-added, present-added}
use Rattle.xs_keys.proofs.JobPlaces.{place_by, has-one-place}

-- ---- ascending lists with the same ids are equal

-- an id is not above itself
pub not_itself : (x : Id) (xs : List Id) → AllAbove x xs → has_id xs x ≡ false
not_itself x xs h = not_above x x xs (irrefl (is_below x x) refl) h where
  irrefl : (t : Bool) → is_below x x ≡ t → t ≡ false
  irrefl false e = refl
  irrefl true e = absurd (false≢true (sym (below-not_back x x e) ∙ e))

-- the first ids are the same
first-same : (x y : Id) (xs ys : List Id) → AllAbove x xs → AllAbove y ys → ((z : Id) → has_id (x ∷ xs) z ≡ has_id (y ∷ ys) z) → x ≡ y
first-same x y xs ys h k e = by (is_same_id x y) refl where
  by : (t : Bool) → is_same_id x y ≡ t → x ≡ y
  by true f = is_same_id-eq x y f
  by false f =
      let in_ys = sym (none_or (is_same_id x y) (has_id ys x) f) ∙ sym (e x) ∙ or_left _ _ (is_same_id-refl x) in
      let in_xs = sym (none_or (is_same_id y x) (has_id xs y) (is_same_id-symm y x ∙ f)) ∙ e y ∙ or_left _ _ (is_same_id-refl y) in
      absurd (false≢true (sym (below-not_back x y (above-has x xs y h in_xs)) ∙ above-has y ys x k in_ys))

pub ascends-same : (xs ys : List Id) → Ascends xs → Ascends ys → ((z : Id) → has_id xs z ≡ has_id ys z) → xs ≡ ys
ascends-same [] [] h k e = refl
ascends-same [] (y ∷ ys) h k e = absurd (false≢true (e y ∙ or_left _ _ (is_same_id-refl y)))
ascends-same (x ∷ xs) [] h k e = absurd (false≢true (sym (e x) ∙ or_left _ _ (is_same_id-refl x)))
ascends-same (x ∷ xs) (y ∷ ys) h k e =
    let first = first-same x y xs ys h.0 k.0 e in
    let rest = ascends-same xs ys h.1 k.1 (λ z. by first z (is_same_id z x) refl) in
    λ i. first i ∷ rest i
  where
    by : x ≡ y → (z : Id) → (t : Bool) → is_same_id z x ≡ t → has_id xs z ≡ has_id ys z
    by f z true g =
        let is = is_same_id-eq z x g in
        ap (has_id xs) is ∙ not_itself x xs h.0 ∙ sym (not_itself y ys k.0) ∙ sym (ap (has_id ys) (is ∙ f))
    by f z false g = sym (none_or (is_same_id z x) (has_id xs z) g) ∙ e z ∙ none_or (is_same_id z y) (has_id ys z) (ap (is_same_id z) (sym f) ∙ g)

-- ---- rows by their ids

-- the ids of rows are those of the list that have one
pub ids-among : (row_of : Id → Option RowState) (ids : List Id) → map (λ e. e.0) (rows_among row_of ids) ≡ filter (λ x. is_some (row_of x)) ids
ids-among row_of [] = refl
ids-among row_of (x ∷ xs) = by (row_of x) (ids-among row_of xs) where
  by : (r : Option RowState) → map (λ e. e.0) (rows_among row_of xs) ≡ filter (λ y. is_some (row_of y)) xs
      → map (λ e. e.0) (with_some x r (rows_among row_of xs)) ≡ cond (is_some r) (x ∷ filter (λ y. is_some (row_of y)) xs) (filter (λ y. is_some (row_of y)) xs)
  by None e = e
  by (Some row) e = ap (λ rest. x ∷ rest) e

pub ascends-rows : (start : Id) (events : List GroupEvent) → PresentAscends events → Ascends (map (λ e. e.0) (rows start events))
ascends-rows start events asc =
    subst Ascends (sym (ids-among (λ x. pending_row_at start events x) (delivered_ids start events)))
    (ascends-where (λ x. is_some (pending_row_at start events x)) (delivered_ids start events) (ascends-delivered start events asc))

-- and those of one consumer's rows are those whose row is the consumer's
pub owned-among : (name : List ℕ) (row_of : Id → Option RowState) (ids : List Id) → ids_of_consumer name (rows_among row_of ids) ≡ filter (λ x. option_map_or (λ row. is_same_name row.consumer name) (row_of x) false) ids
owned-among name row_of [] = refl
owned-among name row_of (x ∷ xs) = by (row_of x) (owned-among name row_of xs) where
  by : (r : Option RowState) → ids_of_consumer name (rows_among row_of xs) ≡ filter (λ y. option_map_or (λ row. is_same_name row.consumer name) (row_of y) false) xs
      → ids_of_consumer name (with_some x r (rows_among row_of xs))
      ≡ cond (option_map_or (λ row. is_same_name row.consumer name) r false) (x ∷ filter (λ y. option_map_or (λ row. is_same_name row.consumer name) (row_of y) false) xs)
      (filter (λ y. option_map_or (λ row. is_same_name row.consumer name) (row_of y) false) xs)
  by None e = e
  by (Some row) e = mine (is_same_name row.consumer name) e where
    mine : (t : Bool) → ids_of_consumer name (rows_among row_of xs) ≡ filter (λ y. option_map_or (λ r. is_same_name r.consumer name) (row_of y) false) xs
        → map (λ e. e.0) (cond t ((x, row) ∷ filter (λ e. is_same_name e.1.consumer name) (rows_among row_of xs)) (filter (λ e. is_same_name e.1.consumer name) (rows_among row_of xs)))
        ≡ cond t (x ∷ filter (λ y. option_map_or (λ r. is_same_name r.consumer name) (row_of y) false) xs) (filter (λ y. option_map_or (λ r. is_same_name r.consumer name) (row_of y) false) xs)
    mine true f = ap (λ rest. x ∷ rest) f
    mine false f = f

filter-same : (p q : Id → Bool) (xs : List Id) → ((x : Id) → p x ≡ q x) → filter p xs ≡ filter q xs
filter-same p q xs h = λ i. filter (λ x. h x i) xs

-- ---- what waits

waits : (p : Place) → is_same_place waiting p ≡ true → p ≡ waiting
waits before_start e = absurd (false≢true e)
waits waiting e = refl
waits dropped e = absurd (false≢true e)
waits handed_out e = absurd (false≢true e)
waits (pending name) e = absurd (false≢true e)
waits settled e = absurd (false≢true e)

pub same_truth : (a b : Bool) → (a ≡ true → b ≡ true) → (b ≡ true → a ≡ true) → a ≡ b
same_truth true true f g = refl
same_truth true false f g = sym (f refl)
same_truth false true f g = g refl
same_truth false false f g = refl

module _ (life : GroupLife) (changes : List StreamEvent) (asc : PresentAscends life.events) (sees : Sees changes life.events) where
  place : Id → Place
  place x = place_of life (ids_of (present_entries changes)) x

  one : (x : Id) → HasOnePlace life (ids_of (present_entries changes)) x
  one x = has-one-place life changes asc sees x

  waiting-are : jobs_at (is_same_place waiting) changes life ≡ new_ids None (cursor life.start life.events) (ids_of (present_entries changes))
  waiting-are =
      ascends-same (jobs_at (is_same_place waiting) changes life) (new_ids None (cursor life.start life.events) (ids_of (present_entries changes)))
      (ascends-where (λ x. is_same_place waiting (place_of life (ids_of (present_entries changes)) x)) (ids_of (added_in changes)) (ascends-added changes))
      (ascends-where (λ x. is_below (cursor life.start life.events) x) (ids_of (present_entries changes)) (ascends-present changes))
      (λ x.
      has_id-where (λ y. is_same_place waiting (place_of life (ids_of (present_entries changes)) y)) (ids_of (added_in changes)) x
      ∙ same_truth _ _ (to x) (from x)
      ∙ sym (has_id-where (λ y. is_below (cursor life.start life.events) y) (ids_of (present_entries changes)) x))
    where
      to : (x : Id) → (is_same_place waiting (place_of life (ids_of (present_entries changes)) x) && has_id (ids_of (added_in changes)) x) ≡ true → (is_below (cursor life.start life.events) x && has_id (ids_of (present_entries changes)) x) ≡ true
      to x e =
          let at = waits (place_of life (ids_of (present_entries changes)) x) (first_of _ _ e) in
          let stands = subst (StandsAt life (ids_of (present_entries changes)) x) at (has-one-place life changes asc sees x).0 in
          λ i. stands.1 i && stands.0 i

      from : (x : Id) → (is_below (cursor life.start life.events) x && has_id (ids_of (present_entries changes)) x) ≡ true → (is_same_place waiting (place_of life (ids_of (present_entries changes)) x) && has_id (ids_of (added_in changes)) x) ≡ true
      from x e =
          let there = second_of (is_below (cursor life.start life.events) x) _ e in
          let at = (has-one-place life changes asc sees x).1 waiting (there, first_of _ _ e) in
          let given = present-added changes x there in
          λ i. is_same_place waiting (sym at i) && given i

  -- ---- what is pending, if a test selects by the consumer
  pending-are : (at : Place → Bool) (test : List ℕ → Bool) → ((p : Place) → at p ≡ true → (name : List ℕ) × (p ≡ pending name)) → ((name : List ℕ) → at (pending name) ≡ test name)
      → jobs_at at changes life ≡ filter (λ x. option_map_or test (owner life.start life.events x) false) (delivered_ids life.start life.events)
  pending-are at test only with =
      ascends-same (jobs_at at changes life) (filter (λ x. option_map_or test (owner life.start life.events x) false) (delivered_ids life.start life.events))
      (ascends-where (λ x. at (place_of life (ids_of (present_entries changes)) x)) (ids_of (added_in changes)) (ascends-added changes))
      (ascends-where (λ x. option_map_or test (owner life.start life.events x) false) (delivered_ids life.start life.events) (ascends-delivered life.start life.events asc))
      (λ x.
      has_id-where (λ y. at (place_of life (ids_of (present_entries changes)) y)) (ids_of (added_in changes)) x
      ∙ by x (owner life.start life.events x) refl
      ∙ sym (has_id-where (λ y. option_map_or test (owner life.start life.events y) false) (delivered_ids life.start life.events) x))
    where
      by : (x : Id) (o : Option (List ℕ)) → owner life.start life.events x ≡ o
          → (at (place_of life (ids_of (present_entries changes)) x) && has_id (ids_of (added_in changes)) x) ≡ (option_map_or test (owner life.start life.events x) false && has_id (delivered_ids life.start life.events) x)
      by x (Some name) o =
          let stands = (has-one-place life changes asc sees x).1 (pending name) o in
          let was_delivered = owned-delivered life.start life.events x (ap is_some o) in
          let given = delivered-added life.start changes life.events x sees was_delivered in
          (λ i. at (sym stands i) && given i) ∙ ap (λ b. b && true) (with name) ∙ sym (λ i. option_map_or test (o i) false && was_delivered i)
      by x None o = (λ i. nowhere (at (place_of life (ids_of (present_entries changes)) x)) refl i && has_id (ids_of (added_in changes)) x) ∙ sym (λ i. option_map_or test (o i) false && has_id (delivered_ids life.start life.events) x) where
        nowhere : (t : Bool) → at (place_of life (ids_of (present_entries changes)) x) ≡ t → at (place_of life (ids_of (present_entries changes)) x) ≡ false
        nowhere false e = e
        nowhere true e =
            let is = only (place_of life (ids_of (present_entries changes)) x) e in
            absurd (false≢true (ap is_some (sym o ∙ subst (StandsAt life (ids_of (present_entries changes)) x) is.1 (has-one-place life changes asc sees x).0)))

  held : (test : List ℕ → Bool) (x : Id) → option_map_or test (owner life.start life.events x) false ≡ option_map_or (λ row. test row.consumer) (pending_row_at life.start life.events x) false
  held test x = ap (λ o. option_map_or test o false) (owner-row life.start life.events x) ∙ by (pending_row_at life.start life.events x) where
    by : (r : Option RowState) → option_map_or test (of_row r) false ≡ option_map_or (λ row. test row.consumer) r false
    by None = refl
    by (Some row) = refl

is-pending : (p : Place) → is_pending p ≡ true → (name : List ℕ) × (p ≡ pending name)
is-pending before_start e = absurd (false≢true e)
is-pending waiting e = absurd (false≢true e)
is-pending dropped e = absurd (false≢true e)
is-pending handed_out e = absurd (false≢true e)
is-pending (pending name) e = (name, refl)
is-pending settled e = absurd (false≢true e)

is-pending-with : (consumer : List ℕ) (p : Place) → is_same_place (pending consumer) p ≡ true → (name : List ℕ) × (p ≡ pending name)
is-pending-with consumer before_start e = absurd (false≢true e)
is-pending-with consumer waiting e = absurd (false≢true e)
is-pending-with consumer dropped e = absurd (false≢true e)
is-pending-with consumer handed_out e = absurd (false≢true e)
is-pending-with consumer (pending name) e = (name, refl)
is-pending-with consumer settled e = absurd (false≢true e)

-- ---- they add up

abbrev is_past : Place → Bool
is_past before_start = false
is_past _ = true

place-past : (a d t : Bool) (last has : Option (List ℕ)) → a ≡ is_past (place_by a d t last has)
place-past false d t last has = refl
place-past true true t None has = refl
place-past true true t (Some last) None = refl
place-past true true t (Some last) (Some name) = refl
place-past true false true last has = refl
place-past true false false last has = refl

one-more : (x : Id) (p : Place) (a : Bool) → a ≡ is_past p → (all w d h n s : List Id) → length all ≡ length w + (length d + (length h + (length n + length s)))
    → length (cond a (x ∷ all) all)
    ≡ length (cond (is_same_place waiting p) (x ∷ w) w) + (length (cond (is_same_place dropped p) (x ∷ d) d) + (length (cond (is_same_place handed_out p) (x ∷ h) h) + (length (cond (is_pending p) (x ∷ n) n) + length (cond (is_same_place settled p) (x ∷ s) s))))
one-more x before_start a e all w d h n s f = rw e f
one-more x waiting a e all w d h n s f = rw e (omega (arith, f))
one-more x dropped a e all w d h n s f = rw e (omega (arith, f))
one-more x handed_out a e all w d h n s f = rw e (omega (arith, f))
one-more x (pending name) a e all w d h n s f = rw e (omega (arith, f))
one-more x settled a e all w d h n s f = rw e (omega (arith, f))

add-up : (above : Id → Bool) (place : Id → Place) → ((x : Id) → above x ≡ is_past (place x)) → (ids : List Id)
    → length (filter above ids)
    ≡ length (filter (λ x. is_same_place waiting (place x)) ids) + (length (filter (λ x. is_same_place dropped (place x)) ids) + (length (filter (λ x. is_same_place handed_out (place x)) ids)
    + (length (filter (λ x. is_pending (place x)) ids) + length (filter (λ x. is_same_place settled (place x)) ids))))
add-up above place is [] = refl
add-up above place is (x ∷ xs) = one-more x (place x) (above x) (is x) _ _ _ _ _ _ (add-up above place is xs)

pub places-add-up : (life : GroupLife) (changes : List StreamEvent) → PresentAscends life.events → Sees changes life.events → PlacesAddUp changes life
places-add-up life changes asc sees =
    let all_pending = pending-are life changes asc sees is_pending (λ name. true) is-pending (λ name. refl)
    ∙ filter-same _ _ (delivered_ids life.start life.events) (λ x. held life changes asc sees (λ name. true) x ∙ by (pending_row_at life.start life.events x))
    ∙ sym (ids-among (λ x. pending_row_at life.start life.events x) (delivered_ids life.start life.events)) in
    record {
      waiting_are = waiting-are life changes asc sees;
      pending_are = all_pending;
      of_consumers = λ consumer.
          pending-are life changes asc sees (is_same_place (pending consumer)) (λ name. is_same_name name consumer) (is-pending-with consumer) (λ name. refl)
          ∙ filter-same _ _ (delivered_ids life.start life.events) (held life changes asc sees (λ name. is_same_name name consumer))
          ∙ sym (owned-among consumer (λ x. pending_row_at life.start life.events x) (delivered_ids life.start life.events));
      add_up = add-up (λ x. is_below life.start x) (λ x. place_of life (ids_of (present_entries changes)) x)
          (λ x. place-past (is_below life.start x) (has_id (delivered_ids life.start life.events) x) (has_id (ids_of (present_entries changes)) x) (last_assignee life.start life.events x) (owner life.start life.events x))
          (ids_of (added_in changes))
          ∙ ap (λ n. length (jobs_at (is_same_place waiting) changes life) + (length (jobs_at (is_same_place dropped) changes life) + (length (jobs_at (is_same_place handed_out) changes life) + (n + length (jobs_at (is_same_place settled) changes life)))))
          (ap length all_pending ∙ length-map (rows life.start life.events) (λ e. e.0));
    }
  where
    by : (r : Option RowState) → option_map_or (λ row. true) r false ≡ is_some r
    by None = refl
    by (Some row) = refl

-- ---- what XPENDING reports

-- the number of rows is what it reports first
pub tells-pending : (c : Content) (past : History) (now : ℕ) (key group : List ℕ) (changes : List StreamEvent) (life : GroupLife) → IsContent c past
    → key_life past key ≡ Some changes → group_life past key group ≡ Some life → TellsPending c now key group (length (jobs_at is_pending changes life))
tells-pending c past now key group changes life is k g =
    by (get c key) refl (subst (λ l. KeyHolds (get c key) l (λ name. group_life past key name)) k (is key))
  where
    number : (state : GroupState) → IsGroupOfLife state life → length state.rows.entries ≡ length (jobs_at is_pending changes life)
    number state holds =
        ap length holds.rows_are ∙ sym (length-map (rows life.start life.events) (λ e. e.0))
        ∙ sym (ap length (places-add-up life changes (present-in-life past key group life g) (sees-of past key group changes life k g)).pending_are)

    by : (found : Option KeyState) → get c key ≡ found → KeyHolds found (Some changes) (λ name. group_life past key name) → TellsPending c now key group (length (jobs_at is_pending changes life))
    by None e h = absurd h
    by (Some held) e h = within (get held.groups group) refl (subst (GroupHolds (get held.groups group)) g (h.1 group)) where
      within : (s : Option GroupState) → get held.groups group ≡ s → GroupHolds s (Some life) → TellsPending c now key group (length (jobs_at is_pending changes life))
      within None f holds = absurd holds
      within (Some state) f holds =
          let told = summary_of state in
          let ids : Option Id → Reply = λ y. option_map_or id_reply y NullBulk in (
            ids told.least ∷ ids told.greatest ∷ array_or_null (map owner_reply told.owners) ∷ [],
            (λ i. reply_of_group (option_and_then (λ o. get o.groups group) (e i)) (λ s. summary_reply (summary_of s)))
                ∙ (λ i. reply_of_group (f i) (λ s. summary_reply (summary_of s)))
                ∙ ap (λ n. array (Int n ∷ ids told.least ∷ ids told.greatest ∷ array_or_null (map owner_reply told.owners) ∷ [])) (number state holds),
          )
