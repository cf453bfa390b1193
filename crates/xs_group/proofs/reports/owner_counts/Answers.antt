use Rattle.xs_group.proofs.Terms.{◌≡◌, ℕ, Bool, true, false, cond, Some, List, [], ◌∷◌, ◌++◌, filter, length, ltb, sym}
use Rattle.xs_group.proofs.Terms.{ap, ◌∙◌, subst, append_assoc, append-nil, arith, nat_tests, keys_of}
use Rattle.xs_group.proofs.Terms.{IsStrictlySortedBy, Id, id_cmp, OwnerCount, RowState, ConsumerIndex, IsAgreed, owner_at, ids_of_owner, Owner}
use Rattle.xs_group.proofs.Terms.{rows_of, counts_of_owners}
use Rattle.xs_group.proofs.OwnIds.{owned-some}
use Rattle.xs_group.proofs.ReportRows.{AreHeld, held-all, keys-consumers_of}
use Rattle.xs_group.proofs.reports.owner_counts.Goals as goal

abbrev told : List (Id × RowState) → ConsumerIndex → List OwnerCount
told rows es = filter (λ owner. ltb 0 owner.count) (counts_of_owners (keys_of es) (rows_of rows).entries)

abbrev told_by : Bool → List ℕ → ℕ → List OwnerCount → List OwnerCount
told_by some name count rest = cond some (record { consumer = name; count = count } ∷ rest) rest

-- a consumer more
told-more : (rows : List (Id × RowState)) (owners : ConsumerIndex) (name : List ℕ) (owner : Owner)
    (rest : ConsumerIndex) → IsAgreed rows owners
    → Some owner ≡ owner_at owners name → IsStrictlySortedBy id_cmp owner.ids.keys
    → told_by (ltb 0 (length owner.ids.keys)) name (length owner.ids.keys) (told rows rest) ≡ told rows ((name, owner) ∷ rest)
told-more rows owners name owner rest agreed held ordered =
    ap (λ own. told_by (ltb 0 (length own)) name (length own) (told rows rest))
    (owned-some rows owners name owner.ids agreed (ap ids_of_owner held) ordered)

pub loop-name-init : goal.loop-name-init
loop-name-init c =
    let owners = c.args.owners.now in
    let is = c.into_iter-name-iterator.ensures.into_iter_gives ∙ c.iter-name-items.ensures.rest in
    record {
      held = subst (AreHeld owners.entries) (sym is) (held-all owners c.iter-name-items.ensures.ordered);
      counted = λ rows agreed. λ i. c.in_ok-counts.ensures.items i ++ told rows (is i);
    }

pub loop-name-preserved-then-count-eq0 : goal.loop-name-preserved-then-count-eq0
loop-name-preserved-then-count-eq0 c =
    let owners = c.args.owners.now.entries in
    let name = c.in-Some.name.now in
    let owner = c.in-Some.owner.now in
    let ids = owner.ids in
    let steps : c.loop-name.name-iterator ≡ (name, owner) ∷ c.next.new.self = c.in-Some.ensures.steps in
    let held = subst (AreHeld owners) steps c.loop-name.invariant.held in
    let len : c.len-count.result ≡ length ids.keys = c.len-count.ensures.len in
    let none : ltb 0 (length ids.keys) ≡ false = grind (arith, nat_tests) in
    record {
      held = held.1;
      counted = λ rows agreed. grind (
        arith,
        told-more rows owners name owner c.next.new.self agreed held.0 c.len-count.ensures.ordered,
        c.loop-name.invariant.counted rows agreed,
      );
    }

pub loop-name-preserved : goal.loop-name-preserved
loop-name-preserved c =
    let owners = c.args.owners.now.entries in
    let name = c.in-Some.name.now in
    let owner = c.in-Some.owner.now in
    let ids = owner.ids in
    let steps : c.loop-name.name-iterator ≡ (name, owner) ∷ c.next.new.self = c.in-Some.ensures.steps in
    let held = subst (AreHeld owners) steps c.loop-name.invariant.held in
    let len : c.len-count.result ≡ length ids.keys = c.len-count.ensures.len in
    let some : ltb 0 (length ids.keys) ≡ true = grind (arith, nat_tests) in
    record {
      held = held.1;
      counted = λ rows agreed. grind (
        arith,
        append_assoc c.loop-name.counts.items (record {
          consumer = name;
          count =
              length ids.keys;
        } ∷ []) (told rows c.next.new.self),
        told-more rows owners name owner c.next.new.self agreed held.0 c.len-count.ensures.ordered,
        c.loop-name.invariant.counted rows agreed,
      );
    }

pub returns : goal.returns
returns c = λ rows agreed.
    let counts = c.loop-name.counts.items in
    sym (append-nil counts) ∙ ap (λ es. counts ++ told rows es) (sym c.in-None.ensures.steps.0)
    ∙ c.loop-name.invariant.counted rows agreed
    ∙ ap (λ names. filter (λ owner. ltb 0 owner.count) (counts_of_owners names (rows_of rows).entries))
    (sym (keys-consumers_of c.args.owners.now c.iter-name-items.ensures.ordered))
