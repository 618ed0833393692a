use Rattle.std.{proofs.{Common.{◌≡◌, ◌<◌, ◌∙◌, List, ap, length, take, arith}, lemmas.{Int.ints, List.get_or_read}}, specs.Prelude.{ℤ, pos, ◌+ℤ◌, ◌≤ℤ◌, ◌<ℤ◌}}
use Rattle.stn_net.specs.{Difference.Difference, Schedule.{HasSchedule, times_of}}
use Rattle.stn_conflict.{specs.{Arcs.bound_at, Relaxation.{AreDistances, Searched}}, proofs.search.refused_side.{Given.Over, Goals.After-get}}
use Rattle.stn_conflict.proofs.search.refused_side.Goals as goal

-- the distance that is read is that to the event at which the upper side's link begins
record Found (bounds : List Difference) (bound : Difference) (far : List ℤ) (read : ℤ) : Type 0 where
  exact : AreDistances bounds bound.to far
  read_is : read ≡ times_of far bound.from
  below : bound.from < length far

found : (g : Over) (c : After-get g) → Found (take c.args.place c.args.graph.now.bounds) (bound_at c.args.graph.now.bounds c.args.place) c.find.new.self.far.items c.get.result
found g c =
    let bound = bound_at c.args.graph.now.bounds c.args.place in
    let far = c.find.new.self.far.items in
    let has : HasSchedule c.before-before.result.bounds = rw c.before-before.ensures c.requires.possible in
    let place : c.from.result ≡ bound.from = c.from.ensures ∙ c.number.ensures.value ∙ c.arc-upper.ensures.from in
    let below : bound.from < length far = omega (arith, c.find.ensures.tables.far, c.requires.named.from, ap (λ (v : Searched). v.events) c.before-before.ensures) in
    record {
      exact = rw (c.before-before.ensures, c.arc-upper.ensures.to) at (c.find.ensures.distances (c.find.ensures.possible.1 has));
      read_is = c.get.ensures.value ∙ get_or_read far _ _ (rw place below) c.index.ensures (pos 0) ∙ ap (times_of far) place;
      below = below;
    }

pub returns-then-get-lt0 : goal.returns-then-get-lt0
returns-then-get-lt0 g c =
    let f = found g (goal.at.returns-then-get-lt0 g c).After-get in
    let bound = bound_at c.args.graph.now.bounds c.args.place in
    let (fl, fh) = c.get.ensures.within in
    let (wl, wh) = c.get-2.ensures.within in
    let less : (times_of c.find.new.self.far.items bound.from +ℤ bound.hi) <ℤ pos 0 = omega (arith, ints, f.read_is, c.get-2.ensures.value, c.arc-upper.ensures.weight) in
    record { side = (_, f.exact.tightest bound.from f.below, less); tables = rw c.before-before.ensures at c.find.ensures.tables; distances = f.exact }

pub returns : goal.returns
returns g c =
    let f = found g (goal.at.returns g c).After-get in
    let bound = bound_at c.args.graph.now.bounds c.args.place in
    let test = c.if-get-lt0.false in
    let (fl, fh) = c.get.ensures.within in
    let (wl, wh) = c.get-2.ensures.within in
    let more : pos 0 ≤ℤ (times_of c.find.new.self.far.items bound.from +ℤ bound.hi) = omega (arith, ints, f.read_is, c.get-2.ensures.value, c.arc-upper.ensures.weight) in
    let has : HasSchedule c.before-before.result.bounds = rw c.before-before.ensures c.requires.possible in
    record {
      side = (_, f.exact.tightest bound.from f.below, more);
      tables = rw c.before-before.ensures at c.find-2.ensures.tables;
      distances = rw (c.before-before.ensures, c.arc-upper.ensures.from) at (c.find-2.ensures.distances (c.find-2.ensures.possible.1 has));
    }
