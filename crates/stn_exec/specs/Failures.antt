-- What is printed where a run ends before its script.
use Rattle.stn_refusal.specs.declared.failure.Failure.{Failure, TheVariants.Failed}
use Rattle.stn_refusal.specs.declared.failure.Fault.TheVariants as fault
use Rattle.stn_exec.specs.declared.script.RunFault.{RunFault, TheVariants.{Read, Write, Bound, Memory}}

abbrev pub run_failure : RunFault → Failure
run_failure Read = Failed fault.Read
run_failure Write = Failed fault.Write
run_failure Bound = Failed fault.Bound
run_failure Memory = Failed fault.Memory
