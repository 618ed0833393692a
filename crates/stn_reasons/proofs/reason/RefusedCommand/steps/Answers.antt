use Rattle.std.proofs.Common.{sym}
use Rattle.stn_reasons.proofs.Steps.{known}
use Rattle.stn_reasons.proofs.reason.RefusedCommand.steps.Goals as goal

pub returns-in-Some : goal.returns-in-Some
returns-in-Some g c = known (g.S.Store.entries c.args.self.now.store.now) c.args.self.now.line.now c.in-Some.log.now c.steps_in.result (sym c.in-Some.ensures) c.steps_in.ensures
