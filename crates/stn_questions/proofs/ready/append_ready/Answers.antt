use Rattle.std.proofs.{Common.{◌++◌, codes, rules}, lemmas.Result.on_ok_weaker}
use Rattle.stn_net.specs.Event.{event_text}
use Rattle.stn_site.specs.Lines.{line}
use Rattle.stn_questions.proofs.ready.append_ready.Goals as goal

pub returns-in-Overdue : goal.returns-in-Overdue
returns-in-Overdue g c =
    on_ok_weaker c.append_event_line.result (λ grown. (line (codes "overdue " ++ event_text c.in-Overdue.event), search rules, grown)) c.append_event_line.ensures
