-- What is asked of a plan depends on the live records alone.
use Rattle.std.proofs.Common.{rules, ◌≡◌, ℕ, ℤ, Bool, List, ◌++◌, map}
use Rattle.stn_net.specs.{Difference.Difference}
use Rattle.stn_lift.specs.PlanSource.{PlanSource, base_bounds}
use Rattle.stn_records.specs.{Id.SiteCounter, declared.record.Record.Record, Content.{Content, live_of}}
use Rattle.stn_conflict.specs.{declared.links.Link.Link}
use Rattle.stn_site.specs.{Bounds.bounds_of, Report.IsConflictPart}
use Rattle.stn_questions.specs.{declared.asked.Question.Question, Ready.IsReadyText, Why.{end_text, IsReasonPart}, Answer.{IsAnswer, AsksOfPlan}}
use Rattle.stn_laws.specs.Among.{IsReadyAmong}

abbrev pub Entries : Type 0
Entries = List (SiteCounter × Record)

-- all bounds, by the live records
abbrev pub bounds_with : PlanSource → Entries → List Difference
bounds_with source records = base_bounds source ++ bounds_of records

abbrev ids_of : Entries → List SiteCounter
ids_of records = map (λ entry. entry.0) records

module _ (source : PlanSource) (s t : Content) (live : live_of s ≡ live_of t) where
  -- states with the same live records have the same conflict
  pub same_conflict : (text : List ℕ) → IsConflictPart source s text → IsConflictPart source t text
  same_conflict text p = search rules

  -- states with the same live records have the same events ready
  pub same_ready : (now : ℤ) (text : List ℕ) → IsReadyText source s now text → IsReadyText source t now text
  same_ready now text p = search rules

  pub same_among : (asked : ℕ → Bool) (now : ℤ) (text : List ℕ) → IsReadyAmong asked source s now text → IsReadyAmong asked source t now text
  same_among asked now text p = search rules

  same_end : (word : List ℕ) (time : ℤ) (links : List Link) → end_text source s word time links ≡ end_text source t word time links
  same_end word time links = cc

  same_reason : (from to : ℕ) (AreEnds : List Difference → ℤ → ℤ → Type 0) (one other : ℤ → ℤ → List ℕ) (low high text : List ℕ)
      → IsReasonPart source s from to AreEnds one low high text → ((least greatest : ℤ) → one least greatest ≡ other least greatest)
      → IsReasonPart source t from to AreEnds other low high text
  same_reason from to AreEnds one other low high text p heading = search rules

  -- states with the same live records have the same answers, but of their records
  pub counted_answer : (question : Question) (text : List ℕ) → AsksOfPlan question → IsAnswer source s question text → IsAnswer source t question text
  counted_answer question text asks p = search (rules, same_reason, same_conflict)
