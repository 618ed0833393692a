use Rattle.std.proofs.{Common.{inl, inr, ◌∙◌, arith}, lemmas.Bool.and_parts}
use Rattle.stn_records.proofs.{Disputes.{ended, ours_first, both_agree, theirs_first}, sorted.first_dispute.Goals.{in_default, in_default-2}}
use Rattle.stn_records.proofs.sorted.first_dispute.Goals as goal

pub loop-our-preserved-in-Less : goal.loop-our-preserved-in-Less
loop-our-preserved-in-Less g c = grind (arith, and_parts, ours_first)

pub loop-our-preserved-else-not-is_same : goal.loop-our-preserved-else-not-is_same
loop-our-preserved-else-not-is_same g c = grind (arith, and_parts, both_agree)

pub loop-our-preserved : goal.loop-our-preserved
loop-our-preserved g c = grind (arith, and_parts, theirs_first)

pub returns : goal.returns
returns g c =
    ended g.X.MapValue.same c.loop-our.left.now c.loop-our.right.now (elim c.match-split_first.branch [ in_default w ↦ inr w.in_default.ensures'.cases | in_default-2 w ↦ inl w.in_default.ensures.cases ]) ∙ c.loop-our.invariant.same
