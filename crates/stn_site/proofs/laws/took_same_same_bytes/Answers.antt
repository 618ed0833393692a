use Rattle.std.proofs.Common.{subst}
use Rattle.stn_lift.specs.PlanSource.{PlanSource}
use Rattle.stn_site.{specs.Report.IsReport, proofs.Items.{same_counts, same_state}}
use Rattle.stn_site.proofs.laws.took_same_same_bytes.Goals as goal

pub returns-clause-bytes : goal.returns-clause-bytes
returns-clause-bytes c = λ ours theirs one other p q same plan text last first second.
    c.same_counts_same_bytes.ensures.bytes other.source one.state other.state (same_counts ours theirs one other p q same) text last
    (subst (λ (source : PlanSource). IsReport source one.state text) plan first) second

pub returns-clause-states : goal.returns-clause-states
returns-clause-states c = same_state
