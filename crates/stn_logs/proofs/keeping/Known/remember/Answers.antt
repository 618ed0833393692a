use Rattle.std.{proofs.Common.{sym, subst}, specs.Prelude.IfSome}
use Rattle.stn_site.specs.Held.{Held}
use Rattle.stn_logs.specs.Keeping.{IsKeptAnswer}
use Rattle.stn_logs.proofs.keeping.Known.remember.Goals as goal

pub invariant_of-self : goal.invariant_of-self
invariant_of-self g c =
    (c.self.invariant.0, c.self.invariant.1, subst (λ (known : Held). IfSome c.args.answered (IsKeptAnswer known)) (sym c.self.view_is) c.requires)
