use Rattle.std.proofs.{Common.{◌++◌, sym, ap}, lemmas.Result.IfOk-equal}
use Rattle.stn_command.specs.Change.{made_text}
use Rattle.stn_command.proofs.changes.Made.print.Goals as goal

pub returns-in-Amended-clause-printed : goal.returns-in-Amended-clause-printed
returns-in-Amended-clause-printed g c =
    IfOk-equal c.append_id_line-in-Amended.result _ _ _ c.append_id_line-in-Amended.ensures.printed (ap (λ made. c.args.out.now.items ++ made_text made) (sym c.in-Amended.is))
