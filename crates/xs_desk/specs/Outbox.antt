-- The answers of a lane that were given: those that were sent through its ring, and after them those that are held
-- back.
use Rattle.std.specs.Prelude.{◌≡◌, ◌≤◌, ◌<◌, ◌⊎◌, Bool, false, List, [], ◌++◌, length}
use Rattle.std.specs.VecDeque.{deque_len, deque_capacity}
use Rattle.rtrb.specs.Ring.{sent, known_free}
use Rattle.xs_desk.specs.declared.answer.Answer.{Answer}
use Rattle.xs_desk.specs.declared.outbox.Outbox.{Outbox}

abbrev pub given : Outbox → List Answer
given outbox = sent outbox.ring ++ outbox.held_back.items

-- an answer isn't held back, and none is before it, or there is a place for it
abbrev pub HasPlace : Bool → Outbox → Type 0
HasPlace holds_back outbox =
    ((holds_back ≡ false) × (outbox.held_back.items ≡ [])) ⊎ (deque_len outbox.held_back < deque_capacity outbox.held_back)

-- there is room for another answer
pub record HasRoom (holds_back : Bool) (outbox : Outbox) : Type 0 where
  pub free : length outbox.held_back.items < known_free outbox.ring
  pub place : HasPlace holds_back outbox

-- the ring has no room after what is held back, or nothing more can be held back
abbrev pub IsFull : Outbox → Type 0
IsFull outbox =
    (known_free outbox.ring ≤ length outbox.held_back.items)
    ⊎ (deque_capacity outbox.held_back ≤ deque_len outbox.held_back)
