use Rattle.std.proofs.Common.{◌≡◌, ◌+◌, drop, length}
use Rattle.xs_keys.specs.ContentAfter.{without_keys}
use Rattle.xs_keys.specs.Reply.{existing_count}
use Rattle.xs_keys.proofs.del.remove_all.Given as goal

-- removing what is left gives the final content
abbrev pub invariant-loop-name : goal.invariant-loop-name
invariant-loop-name l =
    let rest = drop l.name-index l.names in
    (without_keys rest l.keys ≡ without_keys l.names l.initial.keys)
    × (length l.initial.keys.entries + existing_count rest l.keys ≡ length l.keys.entries + existing_count l.names l.initial.keys)
