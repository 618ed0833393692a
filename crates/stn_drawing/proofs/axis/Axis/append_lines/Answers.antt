use Rattle.std.proofs.Common.{◌≡◌, ◌+◌, ◌++◌, ◌∙◌, add-one, append_assoc, arith}
use Rattle.stn_text.proofs.Growing.{range_grown}
use Rattle.stn_drawing.{specs.{Ticks.tick_line, Seen.seen_axis}, proofs.Grown.on_ok}
use Rattle.stn_drawing.proofs.axis.Axis.append_lines.Goals as goal

pub loop-tick-preserved : goal.loop-tick-preserved
loop-tick-preserved g c =
    let tick = c.loop-tick.tick in
    let axis = seen_axis c.args.self.now in
    let line : c.write.new.self.items ≡ c.loop-tick.out.items ++ tick_line axis tick =
    on_ok _ c.write.result c.in_ok-in_memory.ensures c.write.ensures.bytes ∙ simp (append_assoc, c.tick_place-left.ensures) in
    range_grown (tick_line axis) 0 tick tick (tick + 1) c.args.out.now.items c.loop-tick.out.items c.write.new.self.items
    (omega arith) (add-one tick) c.loop-tick.invariant line
