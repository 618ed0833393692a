use Rattle.stn_laws.proofs.questions.every_question_has_an_answer.Goals as goal
use Rattle.stn_laws.proofs.questions.{SomeReport.sound_state, SomeAnswer.some_answer}

pub returns : goal.returns
returns c = λ source state based live. some_answer (sound_state source state based live)
