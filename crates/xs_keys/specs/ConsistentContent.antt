-- What is true of each content of a history: it is consistent.
use Rattle.std.specs.Prelude.{◌≡◌, Some}
use Rattle.xs_stream.specs.ConsistentStream.{IsConsistentStream}
use Rattle.xs_group.specs.ConsistentGroup.{IsConsistentGroup}
use Rattle.xs_keys.specs.Terms.{get, GroupState}
use Rattle.xs_keys.specs.Event.{Bytes}
use Rattle.xs_keys.specs.Content.{KeyState, Content}

pub record IsConsistentKey (key : KeyState) : Type 0 where
  pub stream : IsConsistentStream key.stream
  pub groups : (name : Bytes) (group : GroupState) → get key.groups name ≡ Some group → IsConsistentGroup group

abbrev pub IsConsistentContent : Content → Type 0
IsConsistentContent content = (name : Bytes) (key : KeyState) → get content name ≡ Some key → IsConsistentKey key
