use Rattle.std.proofs.Common.{◌≢◌, All, take}
use Rattle.stn_line.specs.Explanations.Subjects.{subject_word}
use Rattle.stn_line.proofs.explanations.printing.entry_of.Given as goal

abbrev pub invariant-loop-entry : goal.invariant-loop-entry
invariant-loop-entry l = All (λ entry. l.word ≢ subject_word entry.subject) (take l.entry-index l.entries)
