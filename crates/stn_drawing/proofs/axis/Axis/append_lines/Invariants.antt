use Rattle.std.{proofs.Common.{◌≡◌, ◌++◌}, specs.List.{flat_map, range_with_len}}
use Rattle.stn_drawing.specs.{Ticks.tick_line, Seen.seen_axis}
use Rattle.stn_drawing.proofs.axis.Axis.append_lines.Given as goal

abbrev pub invariant-loop-tick : goal.invariant-loop-tick
invariant-loop-tick g l = l.out.items ≡ l.initial.out.items ++ flat_map (tick_line (seen_axis l.self)) (range_with_len 0 l.tick)
