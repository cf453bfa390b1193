use Rattle.std.proofs.Common.{◌≡◌, length}
use Rattle.std.specs.List.{list_any}
use Rattle.xs_session.specs.Information.{is_keyspace_name, names_keyspace}
use Rattle.xs_session.proofs.information.names_keyspace.Given as goal

-- no name before these names the section
abbrev pub invariant-loop-word : goal.invariant-loop-word
invariant-loop-word l = names_keyspace l.fn.names ≡ list_any is_keyspace_name l.left

abbrev pub decreases-loop-word : goal.decreases-loop-word
decreases-loop-word l = length l.left
