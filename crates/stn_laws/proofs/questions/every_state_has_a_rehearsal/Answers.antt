use Rattle.stn_laws.proofs.questions.every_state_has_a_rehearsal.Goals as goal
use Rattle.stn_laws.proofs.questions.{SomeReport.sound_state, SomeDispatch.some_rehearsal}

pub returns : goal.returns
returns c = λ source state based live. some_rehearsal (sound_state source state based live)
