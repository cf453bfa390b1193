-- How the bytes of names change when a name is added or removed.
use Rattle.xs_group.proofs.Terms.{◌≡◌, ℕ, Bool, true, false, cond, not, ◌&&◌, List, [], ◌∷◌, is_some, ap, ◌∙◌, refl, ◌+◌, suc, T}
use Rattle.xs_group.proofs.Terms.{arith, length, sym, slice_cmp, nat_list_cmp_total, nat_cmp, eq_by_cmp, Consumers}
use Rattle.xs_group.proofs.Terms.{has_name, with_name, find, is_sorted, below_all, Ordering, ◌-◌, ◌≤◌}
use Rattle.xs_bytes.specs.SortedMap.{remove, get, insert, insert_by, empty}
use Rattle.std.specs.FinMap.Entries.{put, where_key, by_order, length-put, length_without}
use Rattle.std.specs.declared.cmp.Ordering.TheVariants.{Less, Equal, Greater}
use Rattle.xs_group.proofs.Terms.{list_without_delivery, with_consumer_before, rows_taken_back, ◌||◌, Option, Some, None}
use Rattle.xs_group.specs.Indexes.{PendingList}
use Rattle.xs_group.specs.declared.delivery.Delivery.{Delivery}
use Rattle.xs_group.specs.GroupRoom.{bytes_of_keys, bytes_of_names}
use Rattle.xs_group.proofs.ByConsumer.{is_same_name-eq}

abbrev Entries : Type 0
Entries = List (List ℕ × ℕ)

abbrev cmp : List ℕ → List ℕ → Ordering
cmp = slice_cmp nat_cmp

tail_sorted : (e : List ℕ × ℕ) (es : Entries) → T (is_sorted cmp (e ∷ es)) → T (is_sorted cmp es)
tail_sorted e es h = by (below_all cmp e.0 es) h where
  by : (t : Bool) → T (t && is_sorted cmp es) → T (is_sorted cmp es)
  by true h = h
  by false h = absurd h

bytes-put : (name : List ℕ) (now : ℕ) (es : Entries) → T (is_sorted cmp es) → bytes_of_keys (put cmp name now es) ≡ bytes_of_keys es + cond (is_some (find cmp name es)) 0 (length name)
bytes-put name now [] h = omega arith
bytes-put name now (e ∷ es) h = by (bytes-put name now es (tail_sorted e es h)) (cmp name e.0) refl where
  by : bytes_of_keys (put cmp name now es) ≡ bytes_of_keys es + cond (is_some (find cmp name es)) 0 (length name) → (o : Ordering) → cmp name e.0 ≡ o → bytes_of_keys (by_order o ((name, now) ∷ e ∷ es) ((e.0, now) ∷ es) (e ∷ put cmp name now es)) ≡ (length e.0 + bytes_of_keys es) + cond (is_some (find cmp name (e ∷ es))) 0 (length name)
  by rest Less is = new (is_some (find cmp name (e ∷ es))) refl where
    grown : length (put cmp name now (e ∷ es)) ≡ suc (suc (length es))
    grown = rw is refl

    new : (t : Bool) → is_some (find cmp name (e ∷ es)) ≡ t → length name + (length e.0 + bytes_of_keys es) ≡ (length e.0 + bytes_of_keys es) + cond t 0 (length name)
    new true there =
        let known : length (put cmp name now (e ∷ es)) ≡ cond (is_some (find cmp name (e ∷ es))) (suc (length es)) (suc (length es) + 1) = length-put cmp nat_list_cmp_total name now (e ∷ es) h in
        let same : length (put cmp name now (e ∷ es)) ≡ suc (length es) = known ∙ ap (λ t. cond t (suc (length es)) (suc (length es) + 1)) there in
        absurd (omega (arith, grown, same))
    new false absent = omega arith
  by rest Equal is = rw is (omega arith)
  by rest Greater is = rw is (omega (arith, rest))

bytes-without : (name : List ℕ) (es : Entries) → T (is_sorted cmp es) → bytes_of_keys (where_key cmp (λ x. not (eq_by_cmp cmp name x)) es) + cond (is_some (find cmp name es)) (length name) 0 ≡ bytes_of_keys es
bytes-without name [] h = refl
bytes-without name (e ∷ es) h = by (bytes-without name es (tail_sorted e es h)) (length_without cmp nat_list_cmp_total name es (tail_sorted e es h)) (length_without cmp nat_list_cmp_total name (e ∷ es) h) (eq_by_cmp cmp name e.0) refl where
  rest : Entries
  rest = where_key cmp (λ x. not (eq_by_cmp cmp name x)) es

  by : bytes_of_keys rest + cond (is_some (find cmp name es)) (length name) 0 ≡ bytes_of_keys es
      → cond (is_some (find cmp name es)) 1 0 + length rest ≡ length es
      → cond (is_some (find cmp name (e ∷ es))) 1 0 + length (where_key cmp (λ x. not (eq_by_cmp cmp name x)) (e ∷ es)) ≡ suc (length es)
      → (t : Bool) → eq_by_cmp cmp name e.0 ≡ t
      → bytes_of_keys (where_key cmp (λ x. not (eq_by_cmp cmp name x)) (e ∷ es)) + cond (is_some (find cmp name (e ∷ es))) (length name) 0 ≡ length e.0 + bytes_of_keys es
  by sum fewer all true is =
      let one : 1 + length rest ≡ suc (length es) = rw is at all in
      let same : name ≡ e.0 = is_same_name-eq name e.0 is in
      rw is (none (is_some (find cmp name es)) sum fewer one (ap length same)) where
        none : (t : Bool) → bytes_of_keys rest + cond t (length name) 0 ≡ bytes_of_keys es → cond t 1 0 + length rest ≡ length es → 1 + length rest ≡ suc (length es) → length name ≡ length e.0
            → bytes_of_keys rest + length name ≡ length e.0 + bytes_of_keys es
        none true sum fewer one same = absurd (omega arith)
        none false sum fewer one same = omega arith
  by sum fewer all false is = rw is (omega arith)

-- a name more, unless it is there already
counted-put : (names : Consumers) (name : List ℕ) (now : ℕ) → bytes_of_names (insert names name now) ≡ bytes_of_names names + cond (has_name names name) 0 (length name)
unfolding get insert_by
counted-put names name now = bytes-put name now names.entries names.sorted

pub counted-with : (names : Consumers) (name : List ℕ) (now : ℕ) (given : Bool) → bytes_of_names (with_name names name now given) ≡ bytes_of_names names + cond (has_name names name) 0 (length name)
counted-with names name now given = by given (has_name names name) refl where
  by : (g t : Bool) → has_name names name ≡ t → bytes_of_names (cond (g || not t) (insert names name now) names) ≡ bytes_of_names names + cond t 0 (length name)
  by true t is = counted-put names name now ∙ ap (λ u. bytes_of_names names + cond u 0 (length name)) is
  by false true is = omega arith
  by false false is = counted-put names name now ∙ ap (λ u. bytes_of_names names + cond u 0 (length name)) is

-- a name less, if it is there
pub counted-without : (names : Consumers) (name : List ℕ) → bytes_of_names (remove names name) + cond (has_name names name) (length name) 0 ≡ bytes_of_names names
unfolding get remove
counted-without names name = bytes-without name names.entries names.sorted

pub counted-none : 0 ≡ bytes_of_names empty
unfolding empty
counted-none = refl

-- the count is right after a name is added
pub counted-made : (names : Consumers) (name : List ℕ) (now : ℕ) (given made : Bool) (before more after : ℕ) → before ≡ bytes_of_names names → more ≡ bytes_of_names names + length name → made ≡ not (has_name names name)
    → after ≡ cond made more before → after ≡ bytes_of_names (with_name names name now given)
counted-made names name now given made before more after b m new a = a ∙ by (has_name names name) made new ∙ sym (counted-with names name now given) where
  by : (t u : Bool) → u ≡ not t → cond u more before ≡ bytes_of_names names + cond t 0 (length name)
  by true u is = rw is (omega (arith, b))
  by false u is = rw is m

pub counted-there : (names : Consumers) (name : List ℕ) (now : ℕ) (given there : Bool) (before more after : ℕ) → before ≡ bytes_of_names names → more ≡ bytes_of_names names + length name → there ≡ has_name names name
    → after ≡ cond there before more → after ≡ bytes_of_names (with_name names name now given)
counted-there names name now given there before more after b m known a = a ∙ by (has_name names name) there known ∙ sym (counted-with names name now given) where
  by : (t u : Bool) → u ≡ t → cond u before more ≡ bytes_of_names names + cond t 0 (length name)
  by true u is = rw is (omega (arith, b))
  by false u is = rw is m

-- and after one is removed
pub counted-gone : (names : Consumers) (name : List ℕ) (there : Bool) (before less : ℕ) → before ≡ bytes_of_names names → there ≡ has_name names name → less ≡ cond there (length name) 0
    → before - less ≡ bytes_of_names (remove names name)
counted-gone names name there before less b known l =
    omega (arith, counted-without names name, b, l ∙ ap (λ t. cond t (length name) 0) known)

pub counted-within : (names : Consumers) (name : List ℕ) (there : Bool) (before less : ℕ) → before ≡ bytes_of_names names → there ≡ has_name names name → less ≡ cond there (length name) 0 → less ≤ before
counted-within names name there before less b known l =
    omega (arith, counted-without names name, b, l ∙ ap (λ t. cond t (length name) 0) known)

-- the count is right after a read is undone
module _ (held : PendingList) (delivery : Delivery) (there : Bool) (before name less : ℕ) (b : before ≡ bytes_of_names held.consumers) (known : there ≡ has_name held.consumers delivery.consumer)
    (n : name ≡ cond there (length delivery.consumer) 0) (l : less ≡ cond (not (is_some delivery.seen_before)) name 0) where
  pub counted-undone : before - less ≡ bytes_of_names (list_without_delivery delivery held).consumers
  counted-undone = by delivery.seen_before l where
    by : (seen : Option ℕ) → less ≡ cond (not (is_some seen)) name 0
        → before - less ≡ bytes_of_names (with_consumer_before seen delivery.consumer (record { consumers = held.consumers; rows = rows_taken_back delivery.kind delivery.rows held.rows })).consumers
    by None l = ap (λ k. before - k) l ∙ counted-gone held.consumers delivery.consumer there before name b known n
    by (Some seen) l = omega (arith, b, l, again (has_name held.consumers delivery.consumer) refl) where
      again : (t : Bool) → has_name held.consumers delivery.consumer ≡ t → bytes_of_names (cond t (insert held.consumers delivery.consumer seen) held.consumers) ≡ bytes_of_names held.consumers
      again true is = omega (arith, counted-put held.consumers delivery.consumer seen ∙ ap (λ u. bytes_of_names held.consumers + cond u 0 (length delivery.consumer)) is)
      again false is = refl

  pub within-undone : less ≤ before
  within-undone = by delivery.seen_before l where
    by : (seen : Option ℕ) → less ≡ cond (not (is_some seen)) name 0 → less ≤ before
    by None l = omega (arith, l, counted-within held.consumers delivery.consumer there before name b known n)
    by (Some seen) l = omega (arith, l)
