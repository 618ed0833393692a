use Rattle.std.proofs.Common.{sym, subst, ◌∙◌}
use Rattle.stn_records.specs.Content.{IsSound}
use Rattle.stn_records.proofs.records.Records.copy.Goals as goal

pub invariant_of-result : goal.invariant_of-result
invariant_of-result g c = subst IsSound (sym c.in_ok-state.ensures) c.self.invariant

pub returns : goal.returns
returns g c = c.in_ok-state.ensures ∙ c.self.view_is
