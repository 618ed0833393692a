-- Why a window ends where it does, and why two events come no closer and no further apart.
use Rattle.std.{proofs.Common.{rules, ◌≡◌, ℕ, ℤ, neg_ℤ, ◌+◌, List, ◌++◌, append_assoc, Option, Result}, specs.{Prelude.{◌↔◌, if◌then◌else◌, is_ok, codes, IsNone, IfOk, IfSome, MatchOption, OnOk}, List.flat_map}}
use Rattle.stn_time.specs.Text.{printed}
use Rattle.stn_net.specs.{Difference.Difference, Schedule.HasSchedule}
use Rattle.stn_lift.specs.PlanSource.{PlanSource, base_bounds, events_of}
use Rattle.stn_records.specs.{Id.SiteCounter, Content.Content}
use Rattle.stn_conflict.specs.{declared.links.{Link.Link, BothWays.BothWays}, Named.IsWayOf}
use Rattle.stn_site.specs.{Bounds.{all_bounds, live_bounds}, Names.live_ids, Lines.{line, link_line}}
use Rattle.stn_questions.specs.Why.{HoldEnds, IsReasonPart, end_text, ends_text}

-- what was appended is the answer
pub reason_part : {A : Type 0} (source : PlanSource) (state : Content) (from to : ℕ) (AreEnds : List Difference → ℤ → ℤ → Type 0) (heading : ℤ → ℤ → List ℕ)
    (low high : List ℕ) (both : BothWays A) (t1 t2 : List ℕ) → HoldEnds source state from to both → AreEnds (all_bounds source state) (neg_ℤ both.onward.sum) both.back.sum
    → t1 ≡ heading (neg_ℤ both.onward.sum) both.back.sum → t2 ≡ t1 ++ ends_text source state low high both
    → IsReasonPart source state from to AreEnds heading low high t2
reason_part source state from to AreEnds heading low high both t1 t2 hold are head tail = search rules

-- and where it was appended
pub reasons_appended : {T E : Type 0} (result : Result T E) (new old given text : List ℕ) (Says : List ℕ → Type 0) → Says text → given ≡ text
    → new ≡ (if is_ok result then old ++ given else old) → OnOk result ((said : List ℕ) × Says said × (new ≡ old ++ said))
reasons_appended result new old given text Says says same is = search rules

-- what is found of the ways between two events
pub ends_found : {A E : Type 0} (source : PlanSource) (state : Content) (from to events : ℕ) (bounds : List Difference) (result : Result (Option (BothWays A)) E)
    → bounds ≡ all_bounds source state → events ≡ events_of source → IfOk result (λ found. IsNone found ↔ ¬ HasSchedule bounds)
    → IfOk result (λ found. IfSome found (λ both. IsWayOf bounds to from (events + 1) both.onward.links.items both.onward.sum))
    → IfOk result (λ found. IfSome found (λ both. IsWayOf bounds from to (events + 1) both.back.links.items both.back.sum))
    → IfOk result (λ found. MatchOption found (¬ HasSchedule (all_bounds source state)) (HoldEnds source state from to))
ends_found source state from to events bounds result same count none onward back = search rules

-- an end, as its lines were appended
pub end_in_lines : (source : PlanSource) (state : Content) (word : List ℕ) (given time : ℤ) (base others : List Difference) (ids : List SiteCounter) (links named : List Link) (old t1 t2 : List ℕ)
    → base ≡ base_bounds source → ids ≡ live_ids state → others ≡ live_bounds state → given ≡ time → links ≡ named
    → t1 ≡ old ++ line (word ++ codes " " ++ printed given) → t2 ≡ t1 ++ flat_map (link_line base ids others) links → t2 ≡ old ++ end_text source state word time named
end_in_lines source state word given time base others ids links named old t1 t2 own known live at of_way first rest = search (rules, append_assoc)
