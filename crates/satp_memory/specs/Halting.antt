-- Why an operation isn't answered, as a ledger says it and as it is counted.
use Rattle.satp_base.specs.declared.ledger.ActFault.{ActFault}
use Rattle.satp_base.specs.declared.ledger.ActFault.TheVariants as act
use Rattle.satp_memory.specs.declared.operate.Halt.{Halt}
use Rattle.satp_memory.specs.declared.operate.Halt.TheVariants.{Memory, OutOfOrder, Unfounded}
use Rattle.satp_memory.specs.Calling.{Calling, faulting, wanting}

abbrev pub fault_of : Halt → ActFault
fault_of Unfounded = act.Failed
fault_of (OutOfOrder entry) = act.OutOfOrder entry
fault_of Memory = act.Failed

abbrev pub halted : Halt → Calling → Calling
halted Unfounded c = faulting c
halted (OutOfOrder entry) c = faulting c
halted Memory c = wanting c
