use Rattle.std.{proofs.Common.{sym, ap, subst, ◌∙◌}, specs.FinMap.is_sorted}
use Rattle.stn_records.{specs.{Id.id_cmp, Maps.AllFit}, proofs.Places.entries_of_sorted}
use Rattle.stn_records.proofs.id_map.IdMap.entries.Goals as goal

pub returns : goal.returns
returns g c =
    let is = entries_of_sorted c.self.inside.entries.items c.args.self.now c.self.invariant.0 c.self.view_is in
    record { value = c.deref.ensures.value ∙ sym is; sorted = ap (is_sorted id_cmp) is ∙ c.self.invariant.0; fit = subst (AllFit g.X.MapValue.Fits) c.self.view_is c.self.invariant.1 }
