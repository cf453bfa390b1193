-- Why a snapshot isn't read, though it is right.
use Rattle.xs_log.specs.declared.snapshot_fault.SnapshotFault.{SnapshotFault}
use Rattle.xs_log.specs.declared.snapshot_fault.SnapshotFault.TheVariants.{Memory, Device, TooLong}

-- memory or a number ran out, or the device failed
abbrev pub HasRunOut : SnapshotFault → Type 0
HasRunOut Memory = Unit {0}
HasRunOut Device = Unit {0}
HasRunOut TooLong = Unit {0}
HasRunOut _ = ⊥
