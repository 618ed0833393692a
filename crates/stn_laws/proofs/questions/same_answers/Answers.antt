use Rattle.std.proofs.Common.{subst}
use Rattle.stn_lift.specs.PlanSource.{PlanSource}
use Rattle.stn_site.{proofs.Items.same_counts}
use Rattle.stn_questions.specs.{Answer.IsAnswer, Ready.IsReadyText}
use Rattle.stn_laws.proofs.questions.same_answers.Goals as goal
use Rattle.stn_laws.{specs.Among.IsReadyAmong, proofs.questions.{Counted.{counted_answer, same_ready, same_among}, OneAnswer.{one_ready_text, same_answer}}}

pub returns-clause-items : goal.returns-clause-items
returns-clause-items c = λ ours theirs one other p q same plan question text last.
    same_answer c.one_answer.ensures one.source other.source one.state other.state question text last plan
    (c.took_same_same_bytes.ensures.states ours theirs one other p q same)

pub returns-clause-plan : goal.returns-clause-plan
returns-clause-plan c = λ ours theirs one other p q same plan question asks text last first second.
    c.one_answer.ensures other.source other.state question text last
    (counted_answer other.source one.state other.state (c.counts_same.ensures.live one.state other.state (same_counts ours theirs one other p q same)) question text asks
    (subst (λ (source : PlanSource). IsAnswer source one.state question text) plan first)) second

pub returns-clause-ready : goal.returns-clause-ready
returns-clause-ready c = λ ours theirs one other p q same plan now text last first second.
    c.one_ready_text.ensures other.source other.state now text last
    (same_ready other.source one.state other.state (c.counts_same.ensures.live one.state other.state (same_counts ours theirs one other p q same)) now text
    (subst (λ (source : PlanSource). IsReadyText source one.state now text) plan first)) second

pub returns-clause-among : goal.returns-clause-among
returns-clause-among c = λ ours theirs one other p q same plan asked now text last first second.
    one_ready_text _ _ now text last
    (same_among other.source one.state other.state (c.counts_same.ensures.live one.state other.state (same_counts ours theirs one other p q same)) asked now text
    (subst (λ (source : PlanSource). IsReadyAmong asked source one.state now text) plan first)) second
