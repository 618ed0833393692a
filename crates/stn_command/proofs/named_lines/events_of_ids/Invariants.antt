use Rattle.std.{proofs.Common.{◌≡◌, ◌++◌, length}, specs.List.flat_map}
use Rattle.stn_text.specs.Lines.{words_of}
use Rattle.stn_command.specs.{Words.id_of, NamedLines.{ends_of_record, record_at}}
use Rattle.stn_command.proofs.named_lines.events_of_ids.Given as goal

abbrev pub invariant-loop-word : goal.invariant-loop-word
invariant-loop-word g l =
    flat_map (λ one. ends_of_record (record_at l.records (id_of one))) (words_of l.line)
    ≡ l.events.items ++ flat_map (λ one. ends_of_record (record_at l.records (id_of one))) (words_of l.rest)

abbrev pub decreases-loop-word : goal.decreases-loop-word
decreases-loop-word g l = length l.rest
