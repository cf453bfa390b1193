-- What a claim takes is assigned to its consumer, and no other entry gets another consumer.
use Rattle.std.proofs.Common.{◌≡◌, ℕ, true, false, List, ◌∷◌, Option, Some, None, option_and_then, is_some, sym, ap}
use Rattle.std.proofs.Common.{◌∙◌, refl}
use Rattle.std.proofs.lemmas.Bool.{false≢true}
use Rattle.xs_group.specs.declared.claims.Claim.{Claim}
use Rattle.xs_group.specs.Claims.{row_after_claim}
use Rattle.xs_group.specs.declared.claims.ClaimRule.{ClaimRule}
use Rattle.xs_keys.specs.Terms.{Id, has_id, RowState}
use Rattle.xs_keys.specs.GroupAsk.{GroupAsk, claim, auto_claim}
use Rattle.xs_keys.specs.GroupEvent.{GroupEvent, claim_of_event, pending_row_at, rows}
use Rattle.xs_keys.specs.RepliesTell.{IsAssigned}
use Rattle.xs_keys.proofs.Owners.{claimed-over, owner-row, row-found, of_row}

-- the owner of a row after a claim
taken-row : (consumer : List ℕ) (now : ℕ) (rule : ClaimRule) (c : Claim) (x : Id) (r : Option RowState) → has_id c.take x ≡ true → has_id c.removed x ≡ false → is_some r ≡ true
    → of_row (option_and_then (row_after_claim consumer now rule c x) r) ≡ Some consumer
taken-row consumer now rule c x None t f some = absurd (false≢true some)
taken-row consumer now rule c x (Some row) t f some = rw (f, t) refl

removed-row : (consumer : List ℕ) (now : ℕ) (rule : ClaimRule) (c : Claim) (x : Id) (r : Option RowState) → has_id c.removed x ≡ true
    → of_row (option_and_then (row_after_claim consumer now rule c x) r) ≡ None
removed-row consumer now rule c x None t = refl
removed-row consumer now rule c x (Some row) t = rw t refl

other-row : (consumer : List ℕ) (now : ℕ) (rule : ClaimRule) (c : Claim) (x : Id) (r : Option RowState) → has_id c.take x ≡ false → has_id c.removed x ≡ false
    → of_row (option_and_then (row_after_claim consumer now rule c x) r) ≡ of_row r
other-row consumer now rule c x None t f = refl
other-row consumer now rule c x (Some row) t f = rw (f, t) refl

module _ (start : Id) (past : List GroupEvent) (now : ℕ) (present : List Id) (consumer : List ℕ) (rule : ClaimRule) where
  abbrev pub event : GroupAsk → GroupEvent
  event ask = record { now = now; present = present; ask = ask }

  assigned : (ask : GroupAsk) → ((x : Id) → pending_row_at start (event ask ∷ past) x ≡ option_and_then (row_after_claim consumer now rule (claim_of_event (event ask) (rows start past)) x) (pending_row_at start past x))
      → IsAssigned consumer (claim_of_event (event ask) (rows start past)) (Some (record { start = start; events = past })) (Some (record { start = start; events = event ask ∷ past }))
  assigned ask row_is = record {
    taken = λ x t.
        let over = claimed-over ask now present (rows start past) x t in
        owner-row start (event ask ∷ past) x ∙ ap of_row (row_is x)
        ∙ taken-row consumer now rule (claim_of_event (event ask) (rows start past)) x (pending_row_at start past x) t over.1 (ap is_some (sym (row-found start past x)) ∙ over.0);
    removed = λ x t. owner-row start (event ask ∷ past) x ∙ ap of_row (row_is x) ∙ removed-row consumer now rule (claim_of_event (event ask) (rows start past)) x (pending_row_at start past x) t;
    others = λ x t f. owner-row start (event ask ∷ past) x ∙ ap of_row (row_is x) ∙ other-row consumer now rule (claim_of_event (event ask) (rows start past)) x (pending_row_at start past x) t f
        ∙ sym (owner-row start past x);
  }

  pub assigned-claim : (ids : List Id) → IsAssigned consumer (claim_of_event (event (claim consumer rule ids)) (rows start past))
      (Some (record { start = start; events = past })) (Some (record { start = start; events = event (claim consumer rule ids) ∷ past }))
  assigned-claim ids = assigned (claim consumer rule ids) (λ x. refl)

  pub assigned-scan : (from : Id) (limit : ℕ) → IsAssigned consumer (claim_of_event (event (auto_claim consumer rule from limit)) (rows start past))
      (Some (record { start = start; events = past })) (Some (record { start = start; events = event (auto_claim consumer rule from limit) ∷ past }))
  assigned-scan from limit = assigned (auto_claim consumer rule from limit) (λ x. refl)
