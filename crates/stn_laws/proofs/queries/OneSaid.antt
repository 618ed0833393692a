-- A query has one answer.
use Rattle.std.proofs.{lemmas.Grind.common_steps, Common.{arith, rules, ℕ, ℤ, Bool, List, sym, ◌∙◌}}
use Rattle.stn_lift.specs.{Plan.Steps.PlannedStep, PlanSource.PlanSource}
use Rattle.stn_records.specs.Content.{Content}
use Rattle.stn_site.specs.{Held.Held}
use Rattle.stn_questions.specs.{declared.{asked.Question.Question, words.Outlook.Outlook}, Answer.IsAnswer}
use Rattle.stn_repairs.specs.Text.{IsRepairsText}
use Rattle.stn_laws.proofs.{One.IsOne, questions.OneAnswer.{OneReport, one_ready_text}}
use Rattle.stn_chart.specs.Chart.{Look}
use Rattle.stn_picture.specs.Picture.{IsPicture}
use Rattle.stn_command.specs.{Query.{Query, report, check, foresee, ask, repairs, draw, IsSaid, IsForeseen}, Dispatch.{IsNextText, IsRestText}, Named.IsNamed}
use Rattle.stn_net.proofs.OneAnswer.{one_next, one_rehearsal}

one_next_text : (source : PlanSource) (state : Content) (done : List Bool) (now : ℤ) → IsOne (IsNextText source state done now)
one_next_text source state done now text other p q = search (rules, one_next)

one_rest_text : (source : PlanSource) (state : Content) (done : List Bool) (now : ℤ) → IsOne (IsRestText source state done now)
one_rest_text source state done now text other p q = search (rules, one_rehearsal)

pub one_foreseen : (outlook : Outlook) (source : PlanSource) (state : Content) (done : List Bool) (now : ℤ) → IsOne (IsForeseen outlook source state done now)
one_foreseen outlook source state done now text other p q = search (rules, one_next_text, one_ready_text, one_rest_text)

abbrev pub OnePicture : Type 0
OnePicture = (look : Look) → (names : List (List ℕ)) → (source : PlanSource) → (state : Content) → IsOne (IsPicture look names source state)

pub one_text : OneReport → ((source : PlanSource) → (state : Content) → (question : Question) → IsOne (IsAnswer source state question))
    → ((source : PlanSource) → (state : Content) → IsOne (IsRepairsText source state))
    → OnePicture
    → (query : Query) (held : Held) → IsOne (IsSaid query held)
one_text reports answers mends pictures report held text other p q = reports held.source held.state text other p q
one_text reports answers mends pictures (check times) held text other p q = p ∙ sym q
one_text reports answers mends pictures (foresee outlook now choice) held text other p q = search (rules, one_foreseen)
one_text reports answers mends pictures (ask question) held text other p q = search rules
one_text reports answers mends pictures repairs held text other p q = search rules
one_text reports answers mends pictures (draw look) held text other p q = search rules

-- the same by the names of steps
module _ (one : (query : Query) (held : Held) → IsOne (IsSaid query held)) where
  pub one_named : OnePicture → (query : Query) (steps : List PlannedStep) (held : Held) → IsOne (IsNamed query steps held)
  one_named pictures query steps held text other p q = grind (arith, common_steps)
