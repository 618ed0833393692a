-- What is printed where a plan can't be rehearsed.
use Rattle.stn_refusal.specs.declared.code.Code.TheVariants as code
use Rattle.stn_refusal.specs.{declared.failure.Failure.Failure, Refusals.{refused_of, out_of_memory}}
use Rattle.stn_net.specs.declared.windows.answers.RehearseFault.{RehearseFault}
use Rattle.stn_net.specs.declared.windows.answers.RehearseFault.TheVariants as rehearse

abbrev pub rehearse_failure : RehearseFault → Failure
rehearse_failure (rehearse.Overdue event) = refused_of code.Overdue event
rehearse_failure rehearse.Memory = out_of_memory
