use Rattle.std.{proofs.Common.{◌≡◌, ◌++◌, length}, specs.List.filter_map}
use Rattle.stn_text.specs.Lines.{words_of}
use Rattle.stn_command.specs.Words.{event_of}
use Rattle.stn_command.proofs.named_lines.events_of_words.Given as goal

abbrev pub invariant-loop-word : goal.invariant-loop-word
invariant-loop-word g l = filter_map event_of (words_of l.line) ≡ l.events.items ++ filter_map event_of (words_of l.rest)

abbrev pub decreases-loop-word : goal.decreases-loop-word
decreases-loop-word g l = length l.rest
