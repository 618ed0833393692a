-- The records of the robust plan, made behind those of the loosened plan.
use Rattle.std.{proofs.{lemmas.{Grind.common_steps, List.{take_at, drop_at, length-map, Elements.All-append}}, Common.{rules, arith, ◌≡◌, ◌≤◌, ℕ, true, List, ◌++◌, length, take, drop, refl, sym, ap, subst, ◌∙◌, append_assoc}}, specs.Prelude.All}
use Rattle.stn_net.{proofs.Widest.horizon_named, specs.{Difference.{Difference, NamesEvents}, Horizon.horizon_bounds, Schedule.HasSchedule}}
use Rattle.stn_refusal.specs.declared.failure.Failure.{Failure}
use Rattle.stn_lift.specs.PlanSource.{PlanSource, events_of, IsSoundSource}
use Rattle.stn_records.specs.Content.{most_known}
use Rattle.stn_loosen.{specs.{Slack.{Slack, IsSlack, loose}, Moved.moved_bounds, Robust.{HasPromise, AreRobust}, Asked.IsAskedFailure, Making.{Loosening, made_bounds, with_more, AreMadeBehind}, Stepped.{AreSteps, IsCauseBehind}, Loosened.{durations_of, AreKept, AreLoosened, bounds_with, loose_durations}}, proofs.{Kept.kept_hold, Looser.{kept_of, orders_named}, Sides.sides_named, Steps.source_steps, Robustness.{moved_possible, records_promise}}}

-- the bounds of which the moved ones are made name events
sources_named : (source : PlanSource) → IsSoundSource source → (slack : Slack) (loosened : List Difference) (are : AreLoosened source slack loosened)
    → All (NamesEvents (events_of source)) (are.made.kept ++ horizon_bounds (events_of source))
sources_named source sound slack loosened are = search (rules, All-append, kept_of, orders_named, horizon_named)

-- these are the records of the robust plan after those of the loosened one
pub record IsMadeRobust (source : PlanSource) (slack : Slack) (loosened records : List Difference) : Type 0 where
  pub are_robust : AreRobust source slack records
  pub behind : are_robust.loosened ≡ loosened

-- the durations and the other bounds of the loosened plan, as robust loosening takes them
pub record AreParted (source : PlanSource) (slack : Slack) (old : Loosening) (durations bounds : List Difference) : Type 0 where
  pub sound : IsSoundSource source
  pub slack_is : IsSlack slack
  pub are : AreLoosened source slack old.records
  pub same : old.events ≡ events_of source
  pub steps : ℕ
  pub count : steps ≡ length (durations_of source)
  pub durations_are : durations ≡ take steps old.records
  pub bounds_are : bounds ≡ drop steps old.records ++ horizon_bounds (events_of source)

module _ {source : PlanSource} {slack : Slack} {old : Loosening} {durations bounds : List Difference} (p : AreParted source slack old durations bounds) where
  many : length (loose_durations slack source) ≡ p.steps
  many = cc (length-map (durations_of source) (loose slack))

  durations_first : durations ≡ loose_durations slack source
  durations_first = search (rules, take_at, many)

  bounds_behind : bounds ≡ p.are.made.kept ++ horizon_bounds (events_of source)
  bounds_behind = search (rules, drop_at, many)

  pub are_steps : AreSteps durations
  are_steps = search (rules, durations_first, source_steps)

  sides : moved_bounds durations bounds ≡ moved_bounds (loose_durations slack source) (p.are.made.kept ++ horizon_bounds (events_of source))
  sides = cc (durations_first, bounds_behind)

  pub bounds_named : All (NamesEvents old.events) bounds
  bounds_named = subst (λ n. All (NamesEvents n) bounds) (sym p.same)
      (subst (All (NamesEvents (events_of source))) (sym bounds_behind) (sources_named source p.sound slack old.records p.are))

  pub made_robust : (new : Loosening) → AreMadeBehind old (moved_bounds durations bounds) new → IsMadeRobust source slack old.records new.records
  made_robust new made = record {
    are_robust = record {
      loosened = old.records;
      are_loosened = p.are;
      moved = made.0;
      whole = ap (λ (m : Loosening). m.records) made.1;
      chosen = subst (λ n. AreKept (horizon_bounds n ++ old.records) (moved_bounds (loose_durations slack source) (p.are.made.kept ++ horizon_bounds (events_of source))) made.0) p.same
          (subst (λ l. AreKept (made_bounds old) l made.0) sides made.2);
    };
    behind = refl;
  }

  pub made_promise : (new : Loosening) → HasSchedule (made_bounds new) → AreMadeBehind old (moved_bounds durations bounds) new → HasPromise source slack
  made_promise new possible made =
      (records_promise source p.sound slack p.slack_is new.records (made_robust new made).are_robust).1
      (subst (λ n. HasSchedule (horizon_bounds n ++ new.records)) (ap (λ (m : Loosening). m.events) made.1 ∙ p.same) possible)

  no_promise : ¬ HasSchedule (made_bounds (with_more old (moved_bounds durations bounds))) → ¬ HasPromise source slack
  no_promise none promise =
      let s = moved_possible source p.sound slack p.slack_is old.records p.are promise in
      none (subst (λ n. HasSchedule (horizon_bounds n ++ (old.records ++ moved_bounds durations bounds))) (sym p.same)
      (subst (λ l. HasSchedule (bounds_with source (old.records ++ l))) (sym sides)
      (subst (λ l. HasSchedule l) (append_assoc (horizon_bounds (events_of source)) old.records (moved_bounds (loose_durations slack source) (p.are.made.kept ++ horizon_bounds (events_of source)))) s)))

  pub cause_after : length old.records ≤ most_known → (failure : Failure) → IsCauseBehind old (moved_bounds durations bounds) failure → IsAskedFailure true source slack failure
  cause_after few failure h = search (rules, no_promise)

-- the records of the robust plan name its events, where those of the loosened one do
pub records_named : (source : PlanSource) (slack : Slack) → IsSoundSource source → (loosened records : List Difference) (are : AreRobust source slack records)
    → are.loosened ≡ loosened → All (NamesEvents (events_of source)) loosened → All (NamesEvents (events_of source)) records
records_named source slack sound loosened records are behind before =
    let events = events_of source in
    let sources = are.are_loosened.made.kept ++ horizon_bounds events in
    let sides = sides_named (loose_durations slack source) (source_steps slack source) events sources (sources_named source sound slack are.loosened are.are_loosened) in
    let moved = kept_hold (NamesEvents events) (bounds_with source are.loosened) (moved_bounds (loose_durations slack source) sources) are.moved are.chosen sides in
    grind (arith, common_steps)
