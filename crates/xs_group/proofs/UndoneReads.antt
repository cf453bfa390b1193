-- A read that is undone.
use Rattle.xs_group.proofs.Terms.{Option, Some, None, is_some, ◌≡◌, ℕ, Bool, true, false, cond, not, inl, inr, List, [], ◌∷◌, sym, ap, ◌∙◌}
use Rattle.xs_group.proofs.Terms.{refl, change, Id, Delivery, Rows, GroupState, has_name, with_name, is_any, list_any, has_id, get, new_ids, first_row}
use Rattle.xs_group.proofs.Terms.{with_rows, reread_ids, group_after_delivery, group_after_reread, unless_acked}
use Rattle.xs_group.proofs.Terms.{PendingList, IsNamed, AreFree, IsConsistentGroup, delivery_of, history_of, new_rows}
use Rattle.xs_group.proofs.Terms.{kind_of, rows_taken_back, with_consumer_before, list_without_delivery, row_ids}
use Rattle.xs_group.proofs.Terms.{IsDelivered, IsReread, IsMade}
use Rattle.xs_group.proofs.NewRows.{held-back, seen-again, out-again, unowned-rows}
use Rattle.xs_group.proofs.Cursors.{free-above, new_ids-above}
use Rattle.xs_group.proofs.Touching.{rows-unread}

ids-new_rows : (ids : List Id) → row_ids (new_rows ids) ≡ ids
ids-new_rows [] = refl
ids-new_rows (x ∷ xs) = ap (λ rest. x ∷ rest) (ids-new_rows xs)

-- the consumer is removed if the read created it, and else gets its moment back
before-read : (held : PendingList) (name : List ℕ) (now : ℕ) (given : Bool) → IsNamed held.consumers held.rows
    → with_consumer_before (get held.consumers name) name (record { consumers = with_name held.consumers name now given; rows = held.rows }) ≡ held
before-read held name now given named = by (get held.consumers name) refl where
  by : (o : Option ℕ) → get held.consumers name ≡ o → with_consumer_before o name (record { consumers = with_name held.consumers name now given; rows = held.rows }) ≡ held
  by None e =
      let none : has_name held.consumers name ≡ false = ap is_some e in
      held-back held name now given (unowned-rows held.consumers held.rows name named none) (sym (ap not none))
  by (Some seen) e = ap (λ consumers. record { consumers = consumers; rows = held.rows }) (seen-again held.consumers name now seen given e)

-- a group with the consumers and the rows that an undoing leaves
abbrev pub undone : Delivery → GroupState → GroupState
undone d group =
    let held = list_without_delivery d (record { consumers = group.consumers; rows = group.rows }) in
    record { cursor = d.cursor_before; consumers = held.consumers; rows = held.rows }

abbrev state_of : Id → PendingList → GroupState
state_of cursor held = record { cursor = cursor; consumers = held.consumers; rows = held.rows }

module _ (before : GroupState) (law : IsConsistentGroup before) where
  back : (d : Delivery) (after : GroupState) (now : ℕ) (given : Bool) → d.seen_before ≡ get before.consumers d.consumer → d.cursor_before ≡ before.cursor
      → after.consumers ≡ with_name before.consumers d.consumer now given → rows_taken_back d.kind d.rows after.rows ≡ before.rows → undone d after ≡ before
  back d after now given was cursor consumers back_rows =
      let h : list_without_delivery d (record { consumers = after.consumers; rows = after.rows }) ≡ record { consumers = before.consumers; rows = before.rows } =
      (λ i. with_consumer_before (was i) d.consumer (record { consumers = consumers i; rows = back_rows i }))
      ∙ before-read (record { consumers = before.consumers; rows = before.rows }) d.consumer now given law.of_consumers in
      λ i. state_of (cursor i) (h i)

  undelivered : (after : GroupState) (d : Delivery) → IsDelivered before after d → undone d after ≡ before
  undelivered after d w =
      let ids = new_ids w.limit before.cursor w.ids in
      let free = free-above before.cursor before.rows ids law.up_to_cursor (new_ids-above w.limit before.cursor w.ids) in
      back d after w.now (is_any ids) (ap (λ (k : Delivery). k.seen_before) w.answered) (ap (λ (k : Delivery). k.cursor_before) w.answered) (ap (λ (g : GroupState). g.consumers) w.left)
      ((λ i. rows_taken_back (w.answered i).kind (w.answered i).rows (w.left i).rows) ∙ by ids free w.noack) where
        by : (ids : List Id) → AreFree before.rows ids → (noack : Bool)
            → rows_taken_back (kind_of noack) (new_rows ids) (cond noack before.rows (with_rows ids (first_row d.consumer w.now) before.rows)) ≡ before.rows
        by ids free true = refl
        by ids free false = ap (λ k. change (unless_acked k) (with_rows ids (first_row d.consumer w.now) before.rows)) (ids-new_rows ids)
            ∙ out-again ids (first_row d.consumer w.now) before.rows free

  unreread : (after : GroupState) (d : Delivery) → IsReread before after d → undone d after ≡ before
  unreread after d w =
      back d after w.now (list_any (has_id w.ids) (reread_ids d.consumer w.limit w.from before.rows.entries))
      (ap (λ (k : Delivery). k.seen_before) w.answered) (ap (λ (k : Delivery). k.cursor_before) w.answered) (ap (λ (g : GroupState). g.consumers) w.left)
      ((λ i. rows_taken_back (w.answered i).kind (w.answered i).rows (w.left i).rows)
      ∙ rows-unread w.now w.ids (reread_ids d.consumer w.limit w.from before.rows.entries) before.rows)

pub undone-before : (before after : GroupState) (d : Delivery) → IsMade before after d → undone d after ≡ before
undone-before before after d (law, inl w) = undelivered before law after d w
undone-before before after d (law, inr w) = unreread before law after d w

-- ---- what a read ensures is what its undoing requires

pub made-delivery : (before after : GroupState) (d : Delivery) (consumer : List ℕ) (now : ℕ) (limit : Option ℕ) (noack : Bool) (ids : List Id) → IsConsistentGroup before
    → after ≡ group_after_delivery consumer now limit noack ids before → d ≡ delivery_of consumer limit noack ids before → IsMade before after d
made-delivery before after d consumer now limit noack ids law left answered =
    let own : consumer ≡ d.consumer = sym (ap (λ (k : Delivery). k.consumer) answered) in (
      law,
      inl (record {
        now = now;
        limit = limit;
        noack = noack;
        ids = ids;
        left = left ∙ ap (λ k. group_after_delivery k now limit noack ids before) own;
        answered = answered ∙ ap (λ k. delivery_of k limit noack ids before) own;
      }),
    )

pub made-history : (before after : GroupState) (d : Delivery) (consumer : List ℕ) (now : ℕ) (limit : Option ℕ) (from : Id) (ids : List Id) → IsConsistentGroup before
    → after ≡ group_after_reread consumer now limit from ids before → d ≡ history_of consumer limit from ids before → IsMade before after d
made-history before after d consumer now limit from ids law left answered =
    let own : consumer ≡ d.consumer = sym (ap (λ (k : Delivery). k.consumer) answered) in (
      law,
      inr (record {
        now = now;
        limit = limit;
        from = from;
        ids = ids;
        left = left ∙ ap (λ k. group_after_reread k now limit from ids before) own;
        answered = answered ∙ ap (λ k. history_of k limit from ids before) own;
      }),
    )
