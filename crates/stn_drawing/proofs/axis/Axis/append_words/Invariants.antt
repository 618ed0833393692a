use Rattle.std.{proofs.Common.{◌≡◌, ◌++◌}, specs.List.{flat_map, range_with_len}}
use Rattle.stn_drawing.specs.{Ticks.tick_words, Seen.seen_axis}
use Rattle.stn_drawing.proofs.axis.Axis.append_words.Given as goal

abbrev pub invariant-loop-tick : goal.invariant-loop-tick
invariant-loop-tick g l = l.out.items ≡ l.initial.out.items ++ flat_map (tick_words (seen_axis l.self)) (range_with_len 0 l.tick)
