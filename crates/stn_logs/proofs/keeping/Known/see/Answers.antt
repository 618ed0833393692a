use Rattle.std.{proofs.Common.{sym, subst}, specs.Prelude.IfSome}
use Rattle.stn_site.specs.Held.{Held}
use Rattle.stn_logs.specs.Keeping.{SawLogOf}
use Rattle.stn_logs.proofs.keeping.Known.see.Goals as goal

pub invariant_of-self : goal.invariant_of-self
invariant_of-self g c =
    (c.self.invariant.0, subst (λ (known : Held). IfSome c.args.look (SawLogOf known)) (sym c.self.view_is) c.requires, c.self.invariant.2)
