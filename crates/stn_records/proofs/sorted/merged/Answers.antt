use Rattle.std.proofs.Common.{arith, inl, inr, append_assoc}
use Rattle.stn_records.{specs.{Id.id_cmp, Sorted.merge}, proofs.{Entries.merge_ends, sorted.merged.Goals.{in_default, in_default-2, in-Less, in-Equal, in-Greater}}}
use Rattle.stn_records.proofs.sorted.merged.Goals as goal

-- one of the lists is at its end
pub returns : goal.returns
returns g c =
    merge_ends id_cmp c.loop-our.all.items c.extend_from_slice.new.self.items c.extend_from_slice-2.new.self.items (merge id_cmp c.args.ours.now c.args.theirs.now) c.loop-our.left.now c.loop-our.right.now
    (elim c.match-split_first.branch [ in_default w ↦ inr w.in_default.ensures'.cases | in_default-2 w ↦ inl w.in_default.ensures.cases ])
    c.loop-our.invariant c.in_ok-extend_from_slice.ensures.items c.in_ok-extend_from_slice-2.ensures.items

-- the next entry is pushed
pub loop-our-preserved : goal.loop-our-preserved
loop-our-preserved g c = grind (arith, in-Less, in-Equal, in-Greater, append_assoc)
