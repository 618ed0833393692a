use Rattle.std.proofs.{Common.{◌∙◌, sym}, lemmas.Result.IfOk-weaker}
use mathlib.Core.List.{cons≢nil}
use Rattle.stn_line.proofs.help.said.Goals as goal

pub returns-then-is_empty : goal.returns-then-is_empty
returns-then-is_empty c = IfOk-weaker c.from_str.result _ _ (λ text is none. cons≢nil (sym is ∙ none)) c.from_str.ensures.ok
