use Rattle.std.{proofs.Common.{◌≡◌, ◌++◌, length}, specs.List.filter_map}
use Rattle.stn_text.specs.Lines.{words_of}
use Rattle.stn_command.specs.Words.{id_of}
use Rattle.stn_exec.specs.Command.{tombstone_of}
use Rattle.stn_exec.proofs.command.read_items.Given as goal

abbrev pub invariant-loop-word : goal.invariant-loop-word
invariant-loop-word g l = record {
  records : filter_map id_of (words_of l.line) ≡ l.records.items ++ filter_map id_of (words_of l.rest);
  tombstones : filter_map tombstone_of (words_of l.line) ≡ l.tombstones.items ++ filter_map tombstone_of (words_of l.rest);
}

abbrev pub decreases-loop-word : goal.decreases-loop-word
decreases-loop-word g l = length l.rest
