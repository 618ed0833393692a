use Rattle.std.proofs.Common.{◌≡◌, List, map, drop}
use Rattle.stn_lift.{specs.{Plan.Views.planned_step, Activities.{Activity, activities}, Timelines.IsTimeline, Views.numbers_of}, proofs.TimelineFacts.behind}
use Rattle.stn_lift.proofs.timeline.Timeline.append_steps.Given as goal

-- the first steps are taken up, and the steps as a whole are these and what is left
abbrev pub invariant-loop-step : goal.invariant-loop-step
invariant-loop-step g l = record {
  number : l.number ≡ l.step-index;
  found : List Activity;
  whole : activities l.domain.actions 0 (map planned_step l.steps) ≡ behind l.domain.actions found (activities l.domain.actions l.step-index (drop l.step-index (map planned_step l.steps)));
  timeline : IsTimeline l.atoms found l.self.durations.items l.self.times.items (map numbers_of l.self.footprints.items);
}
