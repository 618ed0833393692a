use Rattle.stn_laws.proofs.scripts.SomeOutput.{script_answered}
use Rattle.stn_laws.proofs.scripts.every_script_has_an_output.Goals as goal

pub returns : goal.returns
returns c =
    let all = script_answered (record { text = c.every_query_has_an_answer.ensures.text; refusal = c.every_query_has_an_answer.ensures.refusal }) in
    record { output = λ script. let its = all script in (its.text, its.output); count = λ script. let its = all script in (its.count, its.refusals) }
