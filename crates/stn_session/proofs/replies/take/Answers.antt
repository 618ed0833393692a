use Rattle.std.{proofs.Common.{◌↔◌, ◌++◌, ap, subst, ◌∙◌}, specs.Prelude.IsTrue}
use Rattle.stn_records.specs.Content.{Content, IsPart}
use Rattle.stn_wire.specs.Frame.{spelling, records}
use Rattle.stn_session.proofs.Taken.{changed_unless_held, taken_answered}
use Rattle.stn_session.proofs.replies.take.Goals as goal

pub returns-in_ok-append_state-in-Ok-clause-answered : goal.returns-in_ok-append_state-in-Ok-clause-answered
returns-in_ok-append_state-in-Ok-clause-answered g c =
    let did = c.in-Ok.ensures in
    let held = g.C.SiteCopy.held in
    let told = subst (λ (s : Content). IsTrue c.holds-brings.result ↔ IsPart c.args.theirs.now s) (c.records.ensures.value ∙ c.plan.ensures.state) c.holds-brings.ensures.part in
    let changed = changed_unless_held (held c.args.copy.now) (held c.take.new.self) c.args.theirs.now c.holds-brings.result told (λ part. ap held (did.again part).1) did.leaves in
    rw c.going_on.ensures (taken_answered (held c.args.copy.now) (held c.take.new.self) c.args.theirs.now _ _ _ did.accepted did.leaves changed
    (c.in_ok-append_state-in-Ok.ensures ∙ ap (λ (s : Content). c.args.out.now.items ++ spelling (records s)) (c.records-in-Ok.ensures.value ∙ c.plan-in-Ok.ensures.state)))
