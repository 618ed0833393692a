use Rattle.std.proofs.Common.{◌≡◌, refl, sym, ◌∙◌}
use Rattle.stn_conflict.proofs.relaxation.least_weight.Goals.{then-less+then-from-to, else-less, in-Some, in-None}
use Rattle.stn_conflict.proofs.relaxation.least_weight.Goals as goal

pub loop-look-preserved : goal.loop-look-preserved
loop-look-preserved g c = elim c.if-less.branch [
  | then-less+then-from-to w ↦
      let is = c.row-look-items.ensures.each c.look-item.result (c.loop-look.look-index, c.loop-look-test.true, sym c.look-item.is) in
      let to : c.args.to ≡ c.look-item.result.to = sym w.if-from-to.true ∙ w.from.ensures ∙ w.number.ensures.value in
      rw w.least-is (c.look-item.result.link, is.there, rw (← is.from, to, ← is.to, ← is.weight) refl)
  | else-less w ↦ rw w.least-is (elim c.match-least.branch [
    | in-Some v ↦ rw v.least-is (rw v.in-Some.is at c.loop-look.invariant)
    | in-None v ↦ rw v.least-is c.loop-look.invariant
  ])
]
