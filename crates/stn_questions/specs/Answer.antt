-- What is printed for a question, and why it is refused.
use Rattle.std.specs.Prelude.{◌≡◌, ◌⊎◌, ◌<◌, ℕ, List, Option, Some, None}
use Rattle.stn_refusal.specs.{declared.failure.Failure.Failure, Refusals.out_of_memory}
use Rattle.stn_net.specs.{Failures.bound_failure, declared.bound.BoundFault.TheVariants.{NoEvent, SameEvent}}
use Rattle.stn_lift.specs.PlanSource.{PlanSource, events_of}
use Rattle.stn_records.specs.Content.{Content}
use Rattle.stn_questions.specs.{declared.asked.Question.{Question, TheVariants.{Records, Steps, Bounds, Why, WhyApart}}, Records.IsRecordsText, Steps.steps_text, Bounds.bounds_text, Why.{IsWhyText, IsApartText, NamesNoEvent}}

-- the text answers the question about a plan and a state
abbrev pub IsAnswer : PlanSource → Content → Question → List ℕ → Type 0
IsAnswer source state Records text = IsRecordsText state text
IsAnswer source state Steps text = text ≡ steps_text source
IsAnswer source state Bounds text = text ≡ bounds_text source state
IsAnswer source state (Why event) text = IsWhyText source state event text
IsAnswer source state (WhyApart from to) text = IsApartText source state from to text

-- the question is about an event that the plan lacks
abbrev pub AsksOfNoEvent : PlanSource → Question → Type 0
AsksOfNoEvent source (Why event) = events_of source < event
AsksOfNoEvent source (WhyApart from to) = NamesNoEvent source from to
AsksOfNoEvent source other = ⊥

-- the question is about an event and itself
abbrev pub AsksOfSameEvent : Question → Type 0
AsksOfSameEvent (WhyApart from to) = from ≡ to
AsksOfSameEvent other = ⊥

-- why a question is refused, or that it is not: it is about an event that the plan lacks, or about an event and itself
abbrev pub IsQuestionRefusal : PlanSource → Question → Option Failure → Type 0
IsQuestionRefusal source question cause = (AsksOfNoEvent source question × (cause ≡ Some (bound_failure NoEvent)))
    ⊎ ((¬ AsksOfNoEvent source question) × AsksOfSameEvent question × (cause ≡ Some (bound_failure SameEvent)))
    ⊎ ((¬ AsksOfNoEvent source question) × (¬ AsksOfSameEvent question) × (cause ≡ None))

-- the failure is that cause, or lack of memory if there is none
abbrev pub IsQuestionFailure : PlanSource → Question → Failure → Type 0
IsQuestionFailure source question failure = IsQuestionRefusal source question (Some failure)
    ⊎ ((failure ≡ out_of_memory) × IsQuestionRefusal source question None)

-- the question is about the plan, and not about the records themselves
abbrev pub AsksOfPlan : Question → Type 0
AsksOfPlan Records = ⊥
AsksOfPlan other = Unit {0}
