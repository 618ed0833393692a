use Rattle.std.{proofs.{Common.{◌≡◌, ◌<◌, length, ap, arith}, lemmas.{Int.ints, List.get_or_read}}, specs.Prelude.slice_index_or}
use Rattle.stn_conflict.proofs.Relaxing.{back_over}
use Rattle.stn_conflict.proofs.relaxation.Search.comes_back.Goals as goal

pub returns-then-here-start : goal.returns-then-here-start
returns-then-here-start g c = λ t times met.
    let back = back_over c.args.graph.now.bounds c.in-Some.ensures c.loop.invariant.kept times met in
    let now = ap times c.if-here-start.true in
    let most = c.loop.invariant.most in
    let few = c.requires.tables.few in
    omega (arith, ints, t)

pub loop-preserved : goal.loop-preserved
loop-preserved g c =
    let weight = c.get-sum.ensures.value in
    let least = c.loop.invariant.least in
    let most = c.loop.invariant.most in
    let below : c.loop.here < length c.args.self.now.by.items = omega (arith, c.loop.invariant.here, c.requires.tables.by) in
    let is : c.index-from.result.now ≡ slice_index_or c.args.self.now.by.items c.loop.here 0 = get_or_read c.args.self.now.by.items _ _ below c.index-from.ensures 0 in
    record {
      here = rw is (c.requires.tables.among c.loop.here 0 below);
      least = omega (arith, ints);
      most = omega (arith, ints);
      kept = λ times met.
          let back = back_over c.args.graph.now.bounds c.in-Some.ensures c.loop.invariant.kept times met in
          omega (arith, ints);
    }
