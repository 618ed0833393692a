use Rattle.std.proofs.Common.{sym, ap}
use Rattle.stn_line.specs.Explanations.Subjects.{word_of_fault}
use Rattle.stn_line.proofs.explanations.subject.fault_word.Goals as goal

pub returns-in-File : goal.returns-in-File
returns-in-File c = sym (ap word_of_fault c.in-File.is)
