use Rattle.std.{proofs.{Common.{◌++◌, not, sym, subst}, lemmas.List.Elements.All-filter}, specs.FinMap.entries}
use Rattle.stn_net.specs.{Difference.NamesEvents, Matrix.Tightest.IsExact}
use Rattle.stn_records.specs.Content.{is_replaced}
use Rattle.stn_site.specs.Bounds.{bounds_of}
use Rattle.stn_replica.specs.Invariant.{IsSettled}
use Rattle.stn_replica.proofs.matrices.rebuild.Goals as goal

pub tighten_each-requires-clause-named : goal.tighten_each-requires-clause-named
tighten_each-requires-clause-named g c =
    rw (c.of_all.ensures, c.copy_from.ensures.events, c.matrix.ensures, ← c.requires.events)
    (All-filter (λ entry. not (is_replaced c.args.records.now entry.0)) (λ entry. NamesEvents c.args.current.now.events entry.1.bound) (entries c.args.records.now.additions) c.requires.named)

pub returns-clause-settled : goal.returns-clause-settled
returns-clause-settled g c = λ bounds exact.
    subst (λ records. IsSettled (bounds ++ bounds_of records) c.tighten_each.new.matrix c.tighten_each.result) c.of_all.ensures
    (c.tighten_each.ensures.settled bounds (c.copy_from.ensures.exact bounds (subst (IsExact bounds) (sym c.matrix.ensures) exact)))
