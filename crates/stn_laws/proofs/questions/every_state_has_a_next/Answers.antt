use Rattle.stn_laws.proofs.questions.every_state_has_a_next.Goals as goal
use Rattle.stn_laws.proofs.questions.{SomeReport.sound_state, SomeDispatch.some_next}

pub returns : goal.returns
returns c = λ source state based live. some_next (sound_state source state based live)
