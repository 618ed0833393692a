-- A plan and a state have one answer to each question.
use Rattle.std.proofs.{Common.{rules, ◌≡◌, ℕ, ℤ, Bool, List, ◌++◌, refl, sym, ◌∙◌, ◌⊎◌, inl, inr}, lemmas.List.append_cancel_left}
use Rattle.stn_net.{specs.{Difference.Difference, Schedule.HasSchedule, declared.windows.answers.Next.{Next, TheVariants.{Run, AllDone, Overdue}}, Windows.Window.IsWindow, Ranges.IsRange}, proofs.{WindowEnds.one_window, Ranges.one_range}}
use Rattle.stn_lift.specs.PlanSource.{PlanSource}
use Rattle.stn_records.specs.Content.{Content}
use Rattle.stn_conflict.specs.{declared.links.Link.Link, Arcs.IsNegativeCycle, Named.IsWay}
use Rattle.stn_site.specs.{Bounds.all_bounds, Report.{IsConflictPart, IsReport, heading}}
use Rattle.stn_questions.specs.{Ready.{IsReadyAnswer, IsReadyWith}, Why.IsReasonPart, declared.asked.Question.{Question, TheVariants.{Records, Steps, Bounds, Why, WhyApart}}, Records.IsRecordsText, Answer.IsAnswer}
use Rattle.stn_laws.proofs.{One.IsOne, questions.{OneKnown.one_known, OneReady.one_list}}

one_ready_answer : (bounds : List Difference) (done : List Bool) (now : ℤ) (answer : Next) → IsOne (IsReadyAnswer bounds done now answer)
one_ready_answer bounds done now (Run time event) text other p q = cc (one_list bounds done now p.ready q.ready p.events q.events)
one_ready_answer bounds done now AllDone text other p q = p ∙ sym q
one_ready_answer bounds done now (Overdue event) text other p q = p ∙ sym q

-- one text says which events are ready
pub one_ready_text : (bounds : List Difference) (done : List Bool) (now : ℤ) → IsOne (IsReadyWith bounds done now)
one_ready_text bounds done now text other p q = search (rules, one_ready_answer)

-- what other laws say of reports, of ways and of negative cycles
abbrev pub OneReport : Type 0
OneReport = (source : PlanSource) → (state : Content) → IsOne (IsReport source state)

abbrev pub OneWay : Type 0
OneWay = (bounds : List Difference) → (from to : ℕ) → IsOne (IsWay bounds from to)

abbrev pub Refutes : Type 0
Refutes = (bounds : List Difference) → (links : List Link) → IsNegativeCycle bounds links → ¬ HasSchedule bounds

-- a report has one conflict
pub one_conflict : OneReport → (source : PlanSource) (state : Content) → IsOne (IsConflictPart source state)
one_conflict unique source state text other p q =
    append_cancel_left (heading source state) text other
    (unique source state (heading source state ++ text) (heading source state ++ other)
    (record { rest = text; part = inr p; whole = refl }) (record { rest = other; part = inr q; whole = refl }))

-- the reasons are one text where there is one pair of ends
one_part : OneWay → (source : PlanSource) (state : Content) (from to : ℕ) (AreEnds : List Difference → ℤ → ℤ → Type 0) (heading : ℤ → ℤ → List ℕ) (low high : List ℕ)
    → ((least greatest first last : ℤ) → HasSchedule (all_bounds source state) → AreEnds (all_bounds source state) least greatest
    → AreEnds (all_bounds source state) first last → (least ≡ first) × (greatest ≡ last))
    → IsOne (IsReasonPart source state from to AreEnds heading low high)
one_part unique source state from to AreEnds heading low high pair text other p q = search rules

-- a text that says the reasons where there is a schedule, and else the conflict, is one text where that of the reasons is
one_or_conflict : OneReport → Refutes → (source : PlanSource) (state : Content) (reasons : List ℕ → Type 0)
    → ((said : List ℕ) → reasons said → HasSchedule (all_bounds source state)) → IsOne reasons → IsOne (λ text. reasons text ⊎ IsConflictPart source state text)
one_or_conflict reports refutes source state reasons possible one text other (inl p) (inl q) = one text other p q
one_or_conflict reports refutes source state reasons possible one text other (inl p) (inr q) = search rules
one_or_conflict reports refutes source state reasons possible one text other (inr p) (inl q) = search rules
one_or_conflict reports refutes source state reasons possible one text other (inr p) (inr q) = search (rules, one_conflict)

one_text : (state : Content) → IsOne (IsRecordsText state)
one_text state text other p q = cc (one_known state p.ids q.ids p.known q.known)

-- a question has one answer
pub one_answer : OneReport → OneWay → Refutes → (source : PlanSource) (state : Content) (question : Question) → IsOne (IsAnswer source state question)
one_answer reports ways refutes source state Records text other p q = one_text state text other p q
one_answer reports ways refutes source state Steps text other p q = p ∙ sym q
one_answer reports ways refutes source state Bounds text other p q = p ∙ sym q
one_answer reports ways refutes source state (Why event) text other p q =
    one_or_conflict reports refutes _ state _ (λ said part. part.possible)
    (one_part ways source state 0 event (λ bounds. IsWindow bounds event) _ _ _ (one_window (all_bounds source state) event)) text other p q
one_answer reports ways refutes source state (WhyApart from to) text other p q =
    one_or_conflict reports refutes _ state _ (λ said part. part.possible)
    (one_part ways source state from to (λ bounds. IsRange bounds from to) _ _ _ (one_range (all_bounds source state) from to)) text other p q

-- equal plans and equal states have the same answer
pub same_answer : ((source : PlanSource) → (state : Content) → (question : Question) → IsOne (IsAnswer source state question))
    → (a b : PlanSource) (s t : Content) (question : Question) (text other : List ℕ) → a ≡ b → s ≡ t
    → IsAnswer a s question text → IsAnswer b t question other → text ≡ other
same_answer law a b s t question text other plan state p q = search rules
