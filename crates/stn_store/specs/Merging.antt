-- Why a copy of a plan takes in nothing of another.
use Rattle.std.specs.Prelude.{◌≡◌, ◌≢◌, ◌⊎◌, Option, Some, option_map}
use Rattle.stn_site.specs.{Held.Held, Refusals.take_refusal, Failures.replica_failure}
use Rattle.stn_refusal.specs.{declared.{code.Code.TheVariants.OtherPlan, failure.{Failure.{Failure, TheVariants.Failed}, Fault.TheVariants.Memory}}, Refusals.refused}

-- the bases of two logs differ
abbrev pub other_plan : Failure
other_plan = refused OtherPlan

-- why a copy takes in nothing of another: its plan is another one, or its own call refuses it
abbrev pub IsMergeRefusal : Held → Held → Option Failure → Type 0
IsMergeRefusal ours theirs cause = ((ours.source ≢ theirs.source) × (cause ≡ Some other_plan))
    ⊎ ((ours.source ≡ theirs.source) × (cause ≡ option_map replica_failure (take_refusal ours theirs.state)))

-- why a merge failed: memory ran out, or the first cause that refuses it
abbrev pub IsMergeFailure : Held → Held → Failure → Type 0
IsMergeFailure ours theirs failure = (failure ≡ Failed Memory) ⊎ IsMergeRefusal ours theirs (Some failure)
