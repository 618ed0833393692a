use Rattle.std.proofs.Common.{subst}
use Rattle.stn_records.specs.Content.{Content}
use Rattle.stn_world.specs.Steps.{TookSameAt, TookSameItemsAt}
use Rattle.stn_questions.specs.Answer.{IsAnswer}
use Rattle.stn_laws.{specs.Reports.AsksSite, proofs.{scripts.Reports.{print_same, answers}, questions.Counted.counted_answer}}
use Rattle.stn_laws.proofs.scripts.questions_are_answered.Goals as goal

pub returns-clause-answer : goal.returns-clause-answer
returns-clause-answer c = answers

pub returns-clause-items : goal.returns-clause-items
returns-clause-items c = λ question.
    print_same (λ _ at site. AsksSite at site question) TookSameItemsAt (λ source state text. IsAnswer source state question text) (λ script at site asks. asks.0.there)
    (λ script output text at site. answers _ _ text at site _)
    (λ source sites others ours theirs site other here there took text last p q.
    let same = c.sites_took_same_same_bytes.ensures.states source sites others ours theirs site other here there took in
    c.one_answer.ensures source _ question text last (subst (λ (state : Content). IsAnswer source state question text) same p) q)

pub returns-clause-plan : goal.returns-clause-plan
returns-clause-plan c = λ question asks.
    print_same (λ _ at site. AsksSite at site question) TookSameAt (λ source state text. IsAnswer source state question text) (λ script at site asked. asked.0.there)
    (λ script output text at site. answers _ _ text at site _)
    (λ source sites others ours theirs site other here there took text last p q.
    let alike = (c.sites_took_same_same_bytes.ensures.bytes source sites others ours theirs site other here there took).0 in
    c.one_answer.ensures source _ question text last (counted_answer source _ _ (c.counts_same.ensures.live _ _ alike) question text asks p) q)
