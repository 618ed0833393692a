use Rattle.std.proofs.Common.{ℕ, List, Ok, sym, subst}
use Rattle.stn_store.specs.Log.{log_held, IsLog}
use Rattle.stn_logs.proofs.keeping.Known.spell.Goals as goal

pub invariant_of-self : goal.invariant_of-self
invariant_of-self g c =
    let spelled = c.in_ok-spell_log.ensures in
    (subst (λ (bytes : List ℕ). IsLog bytes (Ok (log_held c.self.inside.plan))) (sym spelled.text) spelled.loaded, c.self.invariant.1, c.self.invariant.2)
