use Rattle.std.proofs.Common.{sym, subst, ◌∙◌}
use Rattle.std.specs.FinMap as fin
use Rattle.stn_records.{specs.Maps.AllFit, proofs.{Places.{entries_of_sorted, made, made_is, inserted_entries, there_already}, Proper.insert_fits}}
use Rattle.stn_records.proofs.id_map.IdMap.insert.Goals as goal

pub invariant_of-self : goal.invariant_of-self
invariant_of-self g c =
    let es = entries_of_sorted c.self.inside.entries.items c.args.self.now c.self.invariant.0 c.self.view_is in
    made g.X.MapValue.Fits c.insert.new.self.items (fin.insert c.args.self.now c.args.id c.args.value)
    (inserted_entries c.args.self.now c.deref.result.now c.args.id c.in-Err.place (c.deref.ensures.value ∙ sym es) c.self.inside.entries.items c.insert.new.self.items c.args.value c.in-Err.ensures.absent es c.in_ok-insert.ensures.items)
    (insert_fits g.X.MapValue.Fits c.args.self.now c.args.id c.args.value (subst (AllFit g.X.MapValue.Fits) c.self.view_is c.self.invariant.1) c.requires.fit)

pub returns-in_ok-insert-clause-inserted : goal.returns-in_ok-insert-clause-inserted
returns-in_ok-insert-clause-inserted g c =
    let es = entries_of_sorted c.self.inside.entries.items c.args.self.now c.self.invariant.0 c.self.view_is in
    made_is c.insert.new.self.items (fin.insert c.args.self.now c.args.id c.args.value)
    (inserted_entries c.args.self.now c.deref.result.now c.args.id c.in-Err.place (c.deref.ensures.value ∙ sym es) c.self.inside.entries.items c.insert.new.self.items c.args.value c.in-Err.ensures.absent es c.in_ok-insert.ensures.items)

pub returns-in_default-clause-inserted : goal.returns-in_default-clause-inserted
returns-in_default-clause-inserted g c =
    let es = entries_of_sorted c.self.inside.entries.items c.args.self.now c.self.invariant.0 c.self.view_is in
    there_already c.args.self.now c.deref.result.now c.args.id c.in_default.field-0 (c.deref.ensures.value ∙ sym es) c.args.value c.in_default.ensures.found c.requires.agrees
