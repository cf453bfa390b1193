-- A call that changes a group of a key.
use Rattle.std.specs.Prelude.{◌≡◌, Option, Some, None}
use Rattle.std.specs.Borrow.{Bor, MutBor}
use Rattle.std.specs.Fn.{Once}
use Rattle.xs_stream.specs.StreamContent.{StreamInMemory}
use Rattle.xs_resp.specs.declared.fault.Fault.{Fault}
use Rattle.xs_resp.specs.declared.fault.Fault.TheVariants.{NoKey, NoGroup}
use Rattle.xs_keys.specs.Terms.{NameMap, get, insert, GroupState}
use Rattle.xs_keys.specs.Event.{Bytes}
use Rattle.xs_keys.specs.Content.{Content, KeyState}
use Rattle.xs_keys.specs.KeysRoom.{key_state_of}

-- the fault of a missing group
abbrev pub no_group : Option KeyState → Fault
no_group None = NoKey
no_group (Some key) = NoGroup

-- the call was made at a group of a key and at the key's stream, and the group is now as the call left it
pub record IsChangedBy {F A : Type 0} (calls : Once F (MutBor GroupState × (Bor StreamInMemory × Unit {0})) (A × (MutBor GroupState × Unit {0}))) (f : F) (old : Content) (name group_name : Bytes) (outcome : A) (new : Content) : Type 0 where
  pub group : MutBor GroupState
  pub stream : Bor StreamInMemory
  pub groups : NameMap GroupState
  pub left : MutBor GroupState
  pub found : get old name ≡ Some (key_state_of (record { stream = stream.now; groups = groups }))
  pub has : get groups group_name ≡ Some group.now
  pub met : calls.post f (group, (stream, tt)) (outcome, (left, tt))
  pub content_is : new ≡ insert old name (key_state_of (record { stream = stream.now; groups = insert groups group_name left.now }))
