use Rattle.std.{proofs.Common.subst, specs.Prelude.List}
use Rattle.stn_lift.specs.PlanSource.{PlanSource, base_bounds}
use Rattle.stn_records.specs.{Id.SiteCounter, declared.record.Record.Record}
use Rattle.stn_site.proofs.Items.{same_counts}
use Rattle.stn_repairs.specs.Text.{SaysWhatMends, IsRepairsText}
use Rattle.stn_laws.proofs.repairs.same_repairs.Goals as goal

pub returns : goal.returns
returns c = λ ours theirs one other p q same plan text last first second.
    let live = c.counts_same.ensures.live one.state other.state (same_counts ours theirs one other p q same) in
    c.one_repairs_text.ensures other.source other.state text last
    (subst (λ (records : List (SiteCounter × Record)). SaysWhatMends (base_bounds other.source) records text) live
    (subst (λ (source : PlanSource). IsRepairsText source one.state text) plan first)) second
