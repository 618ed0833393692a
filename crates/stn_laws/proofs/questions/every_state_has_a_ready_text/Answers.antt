use Rattle.stn_laws.proofs.questions.every_state_has_a_ready_text.Goals as goal
use Rattle.stn_laws.proofs.questions.{SomeReport.sound_state, SomeDispatch.some_ready}

pub returns : goal.returns
returns c = λ source state based live. some_ready (sound_state source state based live)
