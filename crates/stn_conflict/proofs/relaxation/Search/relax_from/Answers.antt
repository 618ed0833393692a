use Rattle.std.proofs.{Common.{rules, refl}, lemmas.List.with_items_is}
use Rattle.stn_conflict.proofs.relaxation.Search.relax_from.Goals as goal

pub returns : goal.returns
returns g c =
    let e = rw (c.deref_mut.ensures.value, c.deref_mut-3.ensures.value) at c.relax_row.ensures in
    let old = c.args.self.now in
    let was = c.requires.begun.tables in
    let is = e.begun.tables in
    record {
      start = refl;
      sweeps = refl;
      relaxes = search (rules, with_items_is);
    }
