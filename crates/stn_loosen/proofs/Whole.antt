-- The records of a whole plan.
use Rattle.std.{proofs.{Common.{rules, ◌≡◌, List, [], ◌++◌, subst, append-nil}, lemmas.List.{Sorted.All-permutation, Elements.All-nil}}, specs.List.Sorted.IsPermutation}
use Rattle.stn_net.specs.{Difference.Difference, Schedule.{Meets, HasSchedule}}
use Rattle.stn_refusal.specs.declared.{code.Code.TheVariants.Full, failure.Failure.Failure}
use Rattle.stn_lift.specs.PlanSource.{PlanSource, events_of, planned_of, IsSoundSource}
use Rattle.stn_loosen.{specs.{Slack.{Slack, IsSlack}, Faults.IsRefusedFor, Making.{Loosening, AreMadeBehind, IsCauseWith}, Loosened.{orders_of, AreNearestFirst, bounds_with, loose_durations, AreMadeOf, AreTooMany}}, proofs.{Refused.refused_for, Looser.{loose_schedule, orders_hold}}}

module _ (source : PlanSource) (sound : IsSoundSource source) (slack : Slack) (is : IsSlack slack) where
  -- all durations have a schedule
  pub durations_possible : HasSchedule (bounds_with source (loose_durations slack source))
  durations_possible =
      subst (λ l. HasSchedule (bounds_with source l)) (append-nil (loose_durations slack source))
      (planned_of source, loose_schedule source sound (planned_of source) sound.possible slack is [] (All-nil (Meets (planned_of source))))

  module _ (orders : List Difference) (same : IsPermutation (orders_of source) orders) where
    pub orders_possible : HasSchedule (bounds_with source (loose_durations slack source ++ orders))
    orders_possible = (
      planned_of source,
      loose_schedule source sound (planned_of source) sound.possible slack is orders
          (All-permutation (Meets (planned_of source)) (orders_of source) orders same (orders_hold source (Meets (planned_of source)) sound.possible.met)),
    )

module _ (source : PlanSource) (slack : Slack) (before : Loosening) (is : before ≡ record { events = events_of source; records = loose_durations slack source }) where
  pub made_of : (orders : List Difference) (now : Loosening) → AreMadeBehind before orders now → AreMadeOf source slack orders now.records
  made_of orders now made = search rules

  pub cause_of : (orders : List Difference) → AreNearestFirst (planned_of source) (orders_of source) orders → (failure : Failure) → IsCauseWith before orders failure → IsRefusedFor Full (AreTooMany source slack) failure
  cause_of orders sorted = refused_for Full (λ p. search rules)
