use Rattle.std.{proofs.Common.{◌≡◌, length}, specs.List.list_all}
use Rattle.stn_text.specs.Lines.{words_of}
use Rattle.stn_exec.specs.Command.{is_item}
use Rattle.stn_exec.proofs.command.are_items.Given as goal

abbrev pub invariant-loop-word : goal.invariant-loop-word
invariant-loop-word l = list_all is_item (words_of l.line) ≡ list_all is_item (words_of l.rest)

abbrev pub decreases-loop-word : goal.decreases-loop-word
decreases-loop-word l = length l.rest
