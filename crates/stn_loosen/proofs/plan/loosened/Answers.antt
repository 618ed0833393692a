use Rattle.std.proofs.Common.{rules}
use Rattle.stn_loosen.{specs.Slack.IsSlack, proofs.Looser.keeps_plan}
use Rattle.stn_loosen.proofs.plan.loosened.Goals as goal

pub returns-then-robust : goal.returns-then-robust
returns-then-robust g c = rw c.if-robust.true c.make_robust.ensures

pub returns-else-robust : goal.returns-else-robust
returns-else-robust g c =
    let slack : IsSlack c.args.tolerance = search rules in
    let is = c.in_ok-making.ensures in
    let made = c.into_records.ensures in
    rw (c.if-robust.false, made.value) (record {
      records = is.records;
      few = rw made.value at made.few;
      named = rw (made.value, is.events) at made.named;
      keep = keeps_plan c.args.base.now c.args.tolerance c.in_ok-making.making.records is.records is.sound slack;
      refused = tt;
    })
