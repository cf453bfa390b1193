-- How long the texts of errors are.
use Rattle.std.proofs.Common.{◌≤◌, length, arith}
use Rattle.xs_resp.specs.declared.fault.Fault.{Fault}
use Rattle.xs_resp.specs.declared.fault.Fault.TheVariants.{UnknownCommand, Arity, Syntax, BadId, NotInteger, ZeroId}
use Rattle.xs_resp.specs.declared.fault.Fault.TheVariants.{SmallId, Exhausted, NoKey, MissingKey, Busy, NoGroup}
use Rattle.xs_resp.specs.declared.fault.Fault.TheVariants.{Unsupported, Memory, Protocol}
use Rattle.xs_resp.specs.FaultText.{fault_text}

pub fault_length : (fault : Fault) → length (fault_text fault) ≤ 100
unfolding fault_text
fault_length UnknownCommand = omega arith
fault_length Arity = omega arith
fault_length Syntax = omega arith
fault_length BadId = omega arith
fault_length NotInteger = omega arith
fault_length ZeroId = omega arith
fault_length SmallId = omega arith
fault_length Exhausted = omega arith
fault_length NoKey = omega arith
fault_length MissingKey = omega arith
fault_length Busy = omega arith
fault_length NoGroup = omega arith
fault_length Unsupported = omega arith
fault_length Memory = omega arith
fault_length Protocol = omega arith
