use Rattle.std.{proofs.Common.{◌≡◌, take, map}, specs.List.flat_map}
use Rattle.stn_loosen.specs.{Fragile.start_line, Stepped.as_bound}
use Rattle.stn_loosen.proofs.fragile.lines_of.Given as goal

abbrev pub invariant-loop-link : goal.invariant-loop-link
invariant-loop-link g l = l.text.items ≡ flat_map (start_line l.events l.durations l.bounds (map as_bound l.starts)) (take l.link-index l.links)
