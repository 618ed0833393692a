-- What is printed for a faulty time.
use Rattle.stn_refusal.specs.declared.code.Code.TheVariants as code
use Rattle.stn_refusal.specs.{declared.failure.Failure.Failure, Refusals.refused}
use Rattle.stn_time.specs.declared.reading.TimeFault.{TimeFault, TheVariants.{Malformed, TooFine, OutOfRange}}

abbrev pub time_failure : TimeFault → Failure
time_failure Malformed = refused code.Malformed
time_failure TooFine = refused code.TooFine
time_failure OutOfRange = refused code.OutOfRange
