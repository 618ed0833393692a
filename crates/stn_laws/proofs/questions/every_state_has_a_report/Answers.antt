use Rattle.stn_laws.proofs.questions.every_state_has_a_report.Goals as goal
use Rattle.stn_laws.proofs.questions.SomeReport.{some_report, sound_state}

pub returns : goal.returns
returns c = λ source state based live. some_report (sound_state source state based live)
