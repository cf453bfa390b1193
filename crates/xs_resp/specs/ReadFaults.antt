-- The fault that a reader returns.
use Rattle.xs_resp.specs.declared.read_fault.ProtocolFault.{ProtocolFault}
use Rattle.xs_resp.specs.declared.read_fault.ProtocolFault.TheVariants as wrong
use Rattle.xs_resp.specs.declared.read_fault.ReadFault.{ReadFault}
use Rattle.xs_resp.specs.declared.read_fault.ReadFault.TheVariants as fault

abbrev pub read_fault_of : ProtocolFault → ReadFault
read_fault_of wrong.Length = fault.Length
read_fault_of wrong.Shape = fault.Shape
read_fault_of wrong.Limit = fault.Limit
