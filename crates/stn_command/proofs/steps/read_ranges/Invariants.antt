use Rattle.stn_command.{specs.Steps.range_read, proofs.EachRead.IsReadTo}
use Rattle.stn_command.proofs.steps.read_ranges.Given as goal

abbrev pub invariant-words : goal.invariant-words
invariant-words g l = IsReadTo range_read l.words l.word-index l.ranges.items
