-- The relations of the headline and the contracts, by examples: each way in which an owner can change, how a life
-- continues with what an event delivers, what is a reply to an event, and how an addition and the creation of a group
-- can end. (Redis, XREADGROUP, XACK, XCLAIM, XADD and XGROUP CREATE.)
use Rattle.std.specs.Prelude.{◌≡◌, ℕ, true, false, List, [], ◌∷◌, codes, Some, None, Ok, Err}
use Rattle.std.specs.declared.alloc.AllocError.{AllocError}
use Rattle.xs_bytes.specs.SortedMap.{empty, insert}
use Rattle.xs_stream.specs.declared.add.AddId.TheVariants as add
use Rattle.xs_stream.specs.declared.add.AddError.TheVariants as add_error
use Rattle.xs_stream.specs.Examples.{at}
use Rattle.xs_group.specs.GroupState.{new_group}
use Rattle.xs_command.specs.ExamplesStreams.{field}
use Rattle.xs_command.specs.declared.command.AddCommand.{AddCommand}
use Rattle.xs_keys.specs.Terms.{StreamState, Simple, Error, Int, NullBulk, Okay, Pong, Memory, NoKey, Busy, Command}
use Rattle.xs_keys.specs.Terms.{Ping}
use Rattle.xs_keys.specs.Terms.{GroupCreateCommand, At}
use Rattle.xs_keys.specs.GroupEvent.{GroupEvent}
use Rattle.xs_keys.specs.GroupAsk.{read_new, acknowledge, create_consumer}
use Rattle.xs_keys.specs.GroupLife.{GroupLife, LifeContinues}
use Rattle.xs_keys.specs.EachOwner.{OwnerAfter, AfterNoOwner}
use Rattle.xs_keys.specs.EachReply.{JoinsOrIsLeftOut, AreReplied}
use Rattle.xs_keys.specs.Step.{is_error}
use Rattle.xs_keys.specs.Adding.{Adds}
use Rattle.xs_keys.specs.Grouping.{Creates}
use Rattle.xs_keys.specs.ReplyParts.{fault_of_addition}
use Rattle.xs_keys.specs.PlayedLines.{id}
use Rattle.xs_keys.specs.ExamplesGroupEvents.{start, event, read_by_a, noack_by_b, first_by_a, claim_by_b}

-- b reads one more
abbrev pub next_by_b : GroupEvent
next_by_b = event 150 (read_new (codes "b") (Some 1) false)

pub record OwnersGoOn : Type 0 where
  pub stays : OwnerAfter start (read_by_a ∷ []) claim_by_b (at 3 0) (codes "a")
  pub is_settled : OwnerAfter start (read_by_a ∷ []) (event 200 (acknowledge (at 2 0 ∷ []))) (at 2 0) (codes "a")
  pub is_claimed : OwnerAfter start (read_by_a ∷ []) claim_by_b (at 2 0) (codes "a")
  pub none_yet : AfterNoOwner start (first_by_a ∷ []) (event 150 (create_consumer (codes "c"))) (at 3 0)
  pub comes_by_a_delivery : AfterNoOwner start (first_by_a ∷ []) next_by_b (at 3 0)
  pub none_where_there_is_one :
      AfterNoOwner start (read_by_a ∷ []) (event 150 (create_consumer (codes "c"))) (at 2 0) → ⊥

abbrev pub life : List GroupEvent → GroupLife
life events = record { start = start; events = events }

pub record LivesGoOn : Type 0 where
  pub with_what_is_delivered :
      LifeContinues (Some (life (first_by_a ∷ []))) (at 3 0 ∷ []) (Some (life (next_by_b ∷ first_by_a ∷ [])))
  pub with_nothing :
      LifeContinues (Some (life (read_by_a ∷ []))) [] (Some (life (claim_by_b ∷ read_by_a ∷ [])))
  pub not_without_it : LifeContinues (Some (life (first_by_a ∷ []))) [] (Some (life (next_by_b ∷ first_by_a ∷ []))) → ⊥
  pub begins : LifeContinues None [] (Some (life []))
  pub begins_with_no_event : LifeContinues None [] (Some (life (noack_by_b ∷ []))) → ⊥
  pub begins_with_no_delivery : LifeContinues None (at 2 0 ∷ []) (Some (life [])) → ⊥
  pub ends : LifeContinues (Some (life (read_by_a ∷ []))) [] None
  pub ends_with_no_delivery : LifeContinues (Some (life (first_by_a ∷ []))) (at 3 0 ∷ []) None → ⊥

-- a PING at a moment
abbrev pub ping : ℕ → ℕ × Command
ping now = (now, Ping None)

pub record AnswersGoOn : Type 0 where
  pub an_error : is_error (Error NoKey) ≡ true
  pub a_number : is_error (Int 0) ≡ false
  pub nothing : is_error NullBulk ≡ false
  pub follows : JoinsOrIsLeftOut (ping 4 ∷ []) 5 (Ping None) (Simple Pong) (ping 5 ∷ ping 4 ∷ [])
  pub none : AreReplied (ping 4 ∷ []) [] [] (ping 4 ∷ [])
  pub two : AreReplied [] (ping 4 ∷ ping 5 ∷ []) (Simple Pong ∷ Simple Pong ∷ []) (ping 5 ∷ ping 4 ∷ [])
  pub not_one_for_two : AreReplied [] (ping 4 ∷ ping 5 ∷ []) (Simple Pong ∷ []) (ping 4 ∷ []) → ⊥
  pub not_two_for_one : AreReplied [] (ping 4 ∷ []) (Simple Pong ∷ Simple Pong ∷ []) (ping 4 ∷ []) → ⊥

-- an addition of the id 2-0, and a stream whose top is 1-0
abbrev pub addition : AddCommand
addition =
    record {
      key = codes "s";
      make = true;
      trim = None;
      id = add.Exact (at 2 0);
      fields = field (codes "f") (codes "v") ∷ [];
    }

abbrev pub stream : StreamState
stream = record { top = at 1 0; entries = []; added = 1; deleted = at 1 0 }

abbrev pub creation : GroupCreateCommand
creation = record { key = codes "s"; group = codes "g"; start = At (at 1 0); make = false }

pub record Endings : Type 0 where
  pub added :
      Adds stream 5 addition (Ok (id 2 0))
      (record {
        top = at 2 0;
        entries = (at 2 0, field (codes "f") (codes "v") ∷ []) ∷ [];
        added = 2;
        deleted = at 1 0;
      })
  pub out_of_memory : (error : AllocError) → Adds stream 5 addition (Err error) stream
  pub created :
      Creates creation (at 3 0) empty (Ok (Simple Okay)) (insert empty (codes "g") (new_group (at 1 0)))
  pub there_already :
      Creates creation (at 3 0) (insert empty (codes "g") (new_group (at 2 0))) (Ok (Error Busy))
      (insert empty (codes "g") (new_group (at 2 0)))
  pub not_created_without_memory : (error : AllocError) → Creates creation (at 3 0) empty (Err error) empty
  pub memory_reported : fault_of_addition add_error.Memory ≡ Memory
