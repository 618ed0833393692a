use Rattle.std.proofs.Common.{◌+◌, ◌≤◌, Result}
use Rattle.stn_device.specs.Bytes.{most_bytes}
use Rattle.stn_effects.specs.{Effects.Repeats, Printing.device_of}
use Rattle.stn_refusal.specs.declared.failure.Failure.{Failure}
use Rattle.stn_shell.specs.{Coprocess.{Standing, beginning, DoesLines, Turns}, Outside.outside}
use Rattle.stn_shell.proofs.coprocess.run_shell.Given as goal

abbrev pub invariant-turns : goal.invariant-turns
invariant-turns g l = record {
  rest : (last : Standing) (ended : Result (Unit {0}) Failure)
      → Repeats (Turns g.S.Store.fails l.log) (record { around = outside (g.S.Store.entries l.store) (device_of g.R.Read.remaining l.reader) (device_of g.W.Write.contents l.out) (device_of g.E.Write.contents l.err); lines = l.lines; room = l.room; refused = l.refused }) last ended
      → DoesLines g.S.Store.fails l.log (beginning (outside (g.S.Store.entries l.fn.store) (device_of g.R.Read.remaining l.fn.reader) (device_of g.W.Write.contents l.fn.out) (device_of g.E.Write.contents l.fn.err))) last ended;
  few : l.lines + l.room ≤ most_bytes;
}

abbrev pub decreases-turns : goal.decreases-turns
decreases-turns g l = l.room
