use Rattle.stn_store.proofs.SameLog.{opens_same}
use Rattle.stn_logs.proofs.hints.hints_of.Goals as goal

pub returns-in_ok-text-in-Change : goal.returns-in_ok-text-in-Change
returns-in_ok-text-in-Change g c =
    let ours = c.plan.result.now in
    let known = c.in_ok-known-in-Change.known in
    let opened = opens_same _ _ _ known ours c.plan.ensures.site c.plan.ensures.source c.plan.ensures.state c.in_ok-known-in-Change.ensures.opened in
    rw c.in-Change.is (ours, opened, c.in_ok-text-in-Change.ensures)
