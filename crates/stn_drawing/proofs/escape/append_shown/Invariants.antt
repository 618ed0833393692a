use Rattle.std.{proofs.Common.{◌≡◌, ◌++◌, take}, specs.List.flat_map}
use Rattle.stn_drawing.specs.Escape.{escaped}
use Rattle.stn_drawing.proofs.escape.append_shown.Given as goal

abbrev pub invariant-loop-byte : goal.invariant-loop-byte
invariant-loop-byte g l = l.out.items ≡ l.initial.out.items ++ flat_map escaped (take l.byte-index l.text)
