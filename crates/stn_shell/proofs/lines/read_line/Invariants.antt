use Rattle.std.proofs.Common.{◌≡◌, length}
use Rattle.stn_effects.specs.Printing.{device_of}
use Rattle.stn_shell.specs.Lines.{AreWithinLine, Takes}
use Rattle.stn_shell.proofs.lines.read_line.Given as goal

abbrev pub invariant-bytes : goal.invariant-bytes
invariant-bytes g l = record {
  byte_len : length l.byte ≡ 1;
  within : AreWithinLine l.line.items;
  taken : Takes l.fn.room l.room (device_of g.R.Read.remaining l.fn.reader) (device_of g.R.Read.remaining l.reader) l.line.items;
}

abbrev pub decreases-bytes : goal.decreases-bytes
decreases-bytes g l = l.room
