-- When a content is that of a history, by examples: a key with the stream of its life, and a group with the cursor, the
-- consumers and the rows of its life; and contents that aren't. (Redis, XADD and XGROUP CREATE, as a real Redis 7.0
-- shows them.)
use Rattle.std.specs.Prelude.{ℕ, false, List, [], ◌∷◌, codes, Option, Some, None}
use Rattle.xs_bytes.specs.SortedMap.{empty}
use Rattle.xs_stream.specs.declared.id.Id.{Id}
use Rattle.xs_stream.specs.Examples.{at}
use Rattle.xs_group.specs.GroupState.{GroupState, with_consumer, new_group, group_after_delivery}
use Rattle.xs_command.specs.ExamplesStreams.{field}
use Rattle.xs_keys.specs.Life.{StreamEvent, add_entry}
use Rattle.xs_stream.specs.declared.add.AddId.TheVariants as add
use Rattle.xs_keys.specs.GroupEvent.{GroupEvent}
use Rattle.xs_keys.specs.GroupAsk.{read_new}
use Rattle.xs_keys.specs.GroupLife.{GroupLife}
use Rattle.xs_keys.specs.Content.{KeyState, GroupHolds, KeyHolds}

-- 2-0 was added
abbrev pub changes : List StreamEvent
changes = add_entry 5 (add.Exact (at 2 0)) (field (codes "f") (codes "v") ∷ []) None ∷ []

-- a key with this top and the only entry 2-0, and no group
abbrev pub key : Id → KeyState
key top =
    record {
      stream = record {
        top = top;
        entries = (at 2 0, field (codes "f") (codes "v") ∷ []) ∷ [];
        added = 1;
        deleted = at 0 0;
      };
      groups = empty;
    }

-- a key without an entry
abbrev pub empty_key : KeyState
empty_key = record { stream = record { top = at 2 0; entries = []; added = 1; deleted = at 0 0 }; groups = empty }

abbrev pub no_group : List ℕ → Option GroupLife
no_group name = None

-- a group that starts after 1-0, with these events
abbrev pub life : List GroupEvent → GroupLife
life events = record { start = at 1 0; events = events }

abbrev pub some_group : List ℕ → Option GroupLife
some_group name = Some (life [])

-- at 5, a reads 2-0
abbrev pub read_by_a : GroupEvent
read_by_a = record { now = 5; present = at 2 0 ∷ []; ask = read_new (codes "a") None false }

abbrev pub read_group : GroupState
read_group = group_after_delivery (codes "a") 5 None false (at 2 0 ∷ []) (new_group (at 1 0))

pub record Contents : Type 0 where
  pub of_a_key : KeyHolds (Some (key (at 2 0))) (Some changes) no_group
  pub no_key : KeyHolds None None no_group
  pub not_another_top : KeyHolds (Some (key (at 3 0))) (Some changes) no_group → ⊥
  pub not_without_its_entry : KeyHolds (Some empty_key) (Some changes) no_group → ⊥
  pub not_without_a_life : KeyHolds (Some (key (at 2 0))) None no_group → ⊥
  pub not_without_a_key : KeyHolds None (Some changes) no_group → ⊥
  pub not_without_its_group : KeyHolds (Some (key (at 2 0))) (Some changes) some_group → ⊥
  pub no_group_without_a_key : KeyHolds None None some_group → ⊥
  pub of_no_group : GroupHolds None None
  pub of_a_new_group : GroupHolds (Some (new_group (at 1 0))) (Some (life []))
  pub not_a_group_without_a_life : GroupHolds (Some (new_group (at 1 0))) None → ⊥
  pub not_a_life_without_a_group : GroupHolds None (Some (life [])) → ⊥
  pub not_another_start : GroupHolds (Some (new_group (at 2 0))) (Some (life [])) → ⊥
  pub not_before_its_read : GroupHolds (Some (new_group (at 1 0))) (Some (life (read_by_a ∷ []))) → ⊥
  pub not_after_a_read : GroupHolds (Some read_group) (Some (life [])) → ⊥
  pub not_with_a_consumer : GroupHolds (Some (with_consumer (codes "b") 5 (new_group (at 1 0)))) (Some (life [])) → ⊥
