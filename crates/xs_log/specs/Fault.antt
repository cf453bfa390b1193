-- Why a log isn't read, though it is right.
use Rattle.xs_log.specs.declared.fault.LogFault.{LogFault}
use Rattle.xs_log.specs.declared.fault.LogFault.TheVariants.{Memory, Device, TooLong}

-- memory or a number ran out, or the device failed
abbrev pub IsWant : LogFault → Type 0
IsWant Memory = Unit {0}
IsWant Device = Unit {0}
IsWant TooLong = Unit {0}
IsWant _ = ⊥
