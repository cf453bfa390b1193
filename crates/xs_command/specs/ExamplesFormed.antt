-- Commands that words can't give, by examples: each list of ids, fields and keys has at least one element, a read names
-- no key twice, and no entry is added at 0-0 (the pages of the commands, "Syntax").
use Rattle.std.specs.Prelude.{true, false, List, [], ◌∷◌, codes, None}
use Rattle.xs_stream.specs.declared.add.AddId.{AddId}
use Rattle.xs_stream.specs.declared.add.AddId.TheVariants.{Auto, Exact}
use Rattle.xs_stream.specs.declared.field.Field.{Field}
use Rattle.xs_stream.specs.Id.{zero_id}
use Rattle.xs_stream.specs.Examples.{at}
use Rattle.xs_group.specs.declared.claims.ClaimTime.TheVariants as time
use Rattle.xs_command.specs.declared.command.Command.{Command}
use Rattle.xs_command.specs.declared.command.Command.TheVariants as command
use Rattle.xs_command.specs.declared.command.ReadFrom.TheVariants.{New, After}
use Rattle.xs_command.specs.WellFormed.{IsWellFormed}
use Rattle.xs_command.specs.ExamplesStreams.{field}
use Rattle.xs_command.specs.ExamplesGroups.{each, reads_group, claims}

abbrev pub adds_fields : AddId → List Field → Command
adds_fields id fields = command.Add (record { key = codes "k"; make = true; trim = None; id = id; fields = fields })

pub record Formed : Type 0 where
  pub no_field : IsWellFormed (adds_fields Auto []) → ⊥
  pub at_zero : IsWellFormed (adds_fields (Exact zero_id) (field (codes "f") (codes "v") ∷ [])) → ⊥
  pub nothing_deleted : IsWellFormed (command.Delete (codes "k") []) → ⊥
  pub nothing_acknowledged : IsWellFormed (command.Ack (codes "k") (codes "g") []) → ⊥
  pub nothing_claimed : IsWellFormed (claims 0 time.Now None false []) → ⊥
  pub no_key_dropped : IsWellFormed (command.DropKeys []) → ⊥
  pub no_stream_read : IsWellFormed (reads_group None false []) → ⊥
  pub a_stream_read_twice :
      IsWellFormed (reads_group None false (each (codes "a") New ∷ each (codes "b") New ∷ each (codes "a") New ∷ []))
      → ⊥
  pub two_streams_read :
      IsWellFormed (reads_group None false (each (codes "a") New ∷ each (codes "b") (After zero_id) ∷ []))
  pub a_field : IsWellFormed (adds_fields (Exact (at 0 1)) (field (codes "f") (codes "v") ∷ []))
  pub an_id_deleted : IsWellFormed (command.Delete (codes "k") (zero_id ∷ []))
  pub anything_else : IsWellFormed (command.Len (codes "k"))
