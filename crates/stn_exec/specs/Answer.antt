-- What a command answers.
use Rattle.std.specs.Prelude.{ℕ, List, ◌++◌, codes, decimal}
use Rattle.stn_site.specs.Lines.{line}
use Rattle.stn_command.specs.Change.{made_text}
use Rattle.stn_exec.specs.declared.answer.Answer.{Answer, TheVariants.{Changed, Merged, Sent, Delivered}}

-- the line that an answer is
abbrev pub answer_text : Answer → List ℕ
answer_text (Changed made) = made_text made
answer_text Merged = line (codes "merged")
answer_text (Sent number) = line (codes "packet " ++ decimal number)
answer_text Delivered = line (codes "delivered")
