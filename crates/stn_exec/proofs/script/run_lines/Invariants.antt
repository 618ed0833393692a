use Rattle.std.proofs.Common.{◌≡◌, ◌+◌, ◌≤◌, ◌++◌, List, length}
use Rattle.stn_exec.specs.{Effect.CommandReply, Output.{CountsRefusals, WritesOutput}, Script.lines_outcome}
use Rattle.stn_device.specs.Counted.{counted_device, failure_count}
use Rattle.stn_text.specs.Lines.{lines_of}
use Rattle.stn_exec.proofs.script.run_lines.Given as goal

abbrev pub invariant-loop-rest : goal.invariant-loop-rest
invariant-loop-rest g l = record {
  text : (done : List CommandReply) × WritesOutput (g.W.Write.contents (counted_device l.fn.writer)) (g.W.Write.contents (counted_device l.writer)) done
      × ((lines_outcome l.number l.fn.world (lines_of l.text)).replies ≡ done ++ (lines_outcome l.at l.world (lines_of l.rest)).replies) × CountsRefusals done l.ran.refused;
  commands : l.ran.commands + (lines_outcome l.at l.world (lines_of l.rest)).commands ≡ (lines_outcome l.number l.fn.world (lines_of l.text)).commands;
  kept : failure_count l.writer ≡ failure_count l.fn.writer;
  within : l.at + length l.rest ≤ l.number + length l.text;
  few_commands : l.ran.commands + l.number ≤ l.at;
  few_refused : l.ran.refused + l.number ≤ l.at;
}

abbrev pub decreases-loop-rest : goal.decreases-loop-rest
decreases-loop-rest g l = length l.rest
