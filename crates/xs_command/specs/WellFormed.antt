-- What is true of each command that words give.
use Rattle.std.specs.Prelude.{◌≢◌, ℕ, List, [], map, bytes_eq}
use Rattle.std.specs.List.{IsDistinct}
use Rattle.xs_stream.specs.declared.add.AddId.{AddId}
use Rattle.xs_stream.specs.declared.add.AddId.TheVariants.{Auto, AutoSeq, Exact}
use Rattle.xs_stream.specs.Id.{zero_id}
use Rattle.xs_command.specs.declared.command.Command.{Command}
use Rattle.xs_command.specs.declared.command.Command.TheVariants.{Add, Delete, ReadGroup, Ack, Claim, DropKeys}
use Rattle.xs_command.specs.declared.command.ReadOne.{ReadOne}

-- a written id isn't 0-0
abbrev pub IsAddId : AddId → Type 0
IsAddId Auto = Unit {0}
IsAddId (AutoSeq ms) = Unit {0}
IsAddId (Exact id) = id ≢ zero_id

-- the keys of the reads, in their order
abbrev pub keys_of : List ReadOne → List (List ℕ)
keys_of reads = map (λ read. read.key) reads

-- its lists of ids, fields and keys aren't empty, a read names no key twice, and a written id of an addition isn't 0-0
abbrev pub IsWellFormed : Command → Type 0
IsWellFormed (Add add) = IsAddId add.id × (add.fields ≢ [])
IsWellFormed (Delete key ids) = ids ≢ []
IsWellFormed (ReadGroup read) = (read.reads ≢ []) × IsDistinct bytes_eq (keys_of read.reads)
IsWellFormed (Ack key group ids) = ids ≢ []
IsWellFormed (Claim claim) = claim.ids ≢ []
IsWellFormed (DropKeys keys) = keys ≢ []
IsWellFormed _ = Unit {0}
