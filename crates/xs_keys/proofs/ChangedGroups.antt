-- A group of a key that changes: the content of the keys then; and if the group is as before, the keys are as before.
use Rattle.std.proofs.Common.{◌≡◌, ℕ, List, Some, ap, ◌∙◌}
use Rattle.xs_keys.specs.Terms.{NameMap, get, insert, GroupState}
use Rattle.xs_keys.specs.Content.{Content}
use Rattle.xs_keys.specs.ContentAfter.{with_group}
use Rattle.xs_keys.specs.KeysRoom.{KeyInMemory, key_state_of, content_of}
use Rattle.xs_keys.proofs.NameMaps.{insert-same}
use Rattle.xs_keys.proofs.KeyInPlace.{shown-change}

-- a key with a group, in memory
abbrev pub with_group_in_memory : KeyInMemory → List ℕ → GroupState → KeyInMemory
with_group_in_memory key group_name group = record { stream = key.stream; groups = insert key.groups group_name group }

-- the keys with a group that is unchanged are the keys
pub slots-again : (slots : NameMap KeyInMemory) (name group_name : List ℕ) (key : KeyInMemory) (was new : GroupState) → get slots name ≡ Some key → get key.groups group_name ≡ Some was → new ≡ was
    → insert slots name (with_group_in_memory key group_name new) ≡ slots
slots-again slots name group_name key was new found has same =
    ap (λ (g : GroupState). insert slots name (with_group_in_memory key group_name g)) same
    ∙ ap (λ (groups : NameMap GroupState). insert slots name (record { stream = key.stream; groups = groups })) (insert-same key.groups group_name was has)
    ∙ insert-same slots name key found

-- the content of the keys if a group of one of them changes
pub group-put : (slots : NameMap KeyInMemory) (content : Content) → content_of slots ≡ content → (name : List ℕ) (key : KeyInMemory) (group_name : List ℕ) (new : GroupState)
    → content_of (insert slots name (with_group_in_memory key group_name new)) ≡ insert content name (with_group (key_state_of key) group_name new)
group-put slots content shown name key group_name new = shown-change slots content shown name (with_group_in_memory key group_name new)
