use Rattle.std.proofs.Common.{sym, subst}
use Rattle.stn_store.{specs.Store.Opens, proofs.SameLog.opens_same}
use Rattle.stn_logs.proofs.keeping.Kept.load_held.Goals as goal

pub returns-then-branch-clause-opened : goal.returns-then-branch-clause-opened
returns-then-branch-clause-opened g c =
    let known = c.plan.ensures in
    subst (Opens (g.S.Store.entries c.args.store.now) (g.S.Store.held_name c.args.held.now) c.args.site) (sym c.in_ok-copy.ensures)
    (opens_same _ _ _ c.is_held.new.self c.plan.result.now known.site known.source known.state (c.in_ok-is_held.ensures.same c.if-branch.true))
