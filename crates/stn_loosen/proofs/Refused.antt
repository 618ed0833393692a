-- Why there is a failure.
use Rattle.std.{proofs.Common.{rules, inr, refl}, specs.Prelude.{Bool, true, false, List, None}}
use Rattle.stn_refusal.specs.declared.{code.Code.{Code, TheVariants.Full}, failure.Failure.Failure}
use Rattle.stn_net.specs.Difference.{Difference}
use Rattle.stn_lift.specs.PlanSource.{PlanSource}
use Rattle.stn_loosen.specs.{Slack.Slack, Loosened.AreTooMany, Faults.IsRefusedFor, Asked.{AreFewRecords, Keep, IsAskedRefusal, IsAskedFailure}}

-- what one cause says of another
pub refused_for : {Cause Reason : Type 0} (code : Code) → (Cause → Reason) → (failure : Failure) → IsRefusedFor code Cause failure → IsRefusedFor code Reason failure
refused_for code because failure h = search rules

-- too many records of the loosened plan refuse the robust one, too
pub too_many : (robust : Bool) (source : PlanSource) (slack : Slack) (failure : Failure) → IsRefusedFor Full (AreTooMany source slack) failure → IsAskedFailure robust source slack failure
too_many robust source slack failure h = search rules

-- what is made was not refused
pub not_refused : (robust : Bool) (source : PlanSource) (slack : Slack) (records bounds : List Difference) → AreFewRecords robust source slack records → Keep robust source slack bounds
    → IsAskedRefusal robust source slack None
not_refused false source slack records bounds few keep = inr ((records, few), refl)
not_refused true source slack records bounds few keep = search rules
