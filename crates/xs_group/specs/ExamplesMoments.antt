-- The moments of consumers, by examples over the group of `ExamplesRead`, whose consumers were created at 90. A real
-- Redis 7.0 gives a consumer the moment of each read and claim, also if it got nothing; here it is "own" to give it
-- only the moment of one by which it got something. (Redis, XINFO CONSUMERS: "idle".)
use Rattle.std.specs.Prelude.{◌≡◌, ℕ, true, false, List, [], ◌∷◌, codes, Some, None}
use Rattle.xs_stream.specs.Examples.{at}
use Rattle.xs_group.specs.GroupState.{GroupState, with_consumer, without_consumer, group_after_ack, is_any}
use Rattle.xs_group.specs.GroupState.{group_after_delivery, group_after_reread}
use Rattle.xs_group.specs.Claims.{group_after_claim}
use Rattle.xs_group.specs.ExamplesRead.{group, present}
use Rattle.xs_group.specs.ExamplesClaims.{idle_for}

-- the consumers a, b and c have these moments, and there are no others
abbrev pub Have : GroupState → ℕ → ℕ → ℕ → Type 0
Have group a b c = group.consumers.entries ≡ (codes "a", a) ∷ (codes "b", b) ∷ (codes "c", c) ∷ []

-- d is there as well
abbrev pub HaveAndNew : GroupState → ℕ → ℕ → ℕ → ℕ → Type 0
HaveAndNew group a b c d =
    group.consumers.entries ≡ (codes "a", a) ∷ (codes "b", b) ∷ (codes "c", c) ∷ (codes "d", d) ∷ []

pub record Moments : Type 0 where
  pub of_a_new_one : HaveAndNew (with_consumer (codes "d") 200 group) 90 90 90 200
  pub not_of_one_that_is_made_again : Have (with_consumer (codes "b") 200 group) 90 90 90
  pub some_are_any : is_any (at 1 0 ∷ []) ≡ true
  pub none_are : is_any [] ≡ false
  pub delivered : Have (group_after_delivery (codes "b") 200 (Some 1) false present group) 90 200 90
  pub delivered_to_a_new_one :
      HaveAndNew (group_after_delivery (codes "d") 200 None false present group) 90 90 90 200
  pub delivered_without_pending : Have (group_after_delivery (codes "c") 200 None true present group) 90 90 200
  pub nothing_to_deliver_own : Have (group_after_delivery (codes "b") 200 None false (at 2 0 ∷ []) group) 90 90 90
  pub nothing_to_deliver_to_a_new_one :
      HaveAndNew (group_after_delivery (codes "d") 200 None false [] group) 90 90 90 200
  pub own_entries : Have (group_after_reread (codes "a") 200 None (at 0 0) present group) 200 90 90
  pub own_entry_that_is_deleted_own :
      Have (group_after_reread (codes "a") 200 (Some 1) (at 0 0) present group) 90 90 90
  pub no_entry_of_its_own_own : Have (group_after_reread (codes "c") 200 None (at 0 0) present group) 90 90 90
  pub claimed :
      Have (group_after_claim (codes "c") 200 (idle_for 0) (record { take = at 2 0 ∷ []; removed = [] }) group) 90 90
      200
  pub nothing_claimed_own :
      Have (group_after_claim (codes "c") 200 (idle_for 0) (record { take = []; removed = at 1 0 ∷ [] }) group) 90 90
      90
  pub acknowledged : Have (group_after_ack (at 1 0 ∷ at 2 0 ∷ []) group) 90 90 90
  pub another_leaves :
      (without_consumer (codes "a") group).consumers.entries ≡ (codes "b", 90) ∷ (codes "c", 90) ∷ []
