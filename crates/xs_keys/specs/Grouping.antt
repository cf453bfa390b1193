-- The contracts of the creation of groups within the code.
use Rattle.std.specs.Prelude.{◌≡◌, true, false, ◌⊎◌, Result, Ok, Err}
use Rattle.std.specs.declared.alloc.AllocError.{AllocError}
use Rattle.xs_keys.specs.Terms.{NameMap, has_key, insert, Id, GroupState, new_group, Reply, Simple, Error, Okay, Busy}
use Rattle.xs_keys.specs.Terms.{GroupCreateCommand}
use Rattle.xs_keys.specs.GroupLife.{starting_id}

-- among the groups of a key with this top: it exists already, or it is created, or memory ran out
abbrev pub Creates : GroupCreateCommand → Id → NameMap GroupState → Result Reply AllocError → NameMap GroupState → Type 0
Creates create top old (Ok answer) new =
    ((has_key old create.group ≡ true) × (answer ≡ Error Busy) × (new ≡ old))
    ⊎ ((has_key old create.group ≡ false) × (answer ≡ Simple Okay)
    × (new ≡ insert old create.group (new_group (starting_id create.start top))))
Creates create top old (Err refused) new = (has_key old create.group ≡ false) × (new ≡ old)
