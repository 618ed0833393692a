-- The events that a site chooses itself.
use Rattle.std.specs.{Prelude.{ℕ, ◌+◌, ◌*◌, ◌==◌, nat_le, Bool, not, ◌&&◌, ◌||◌, List, map}, List.{list_all, list_any, range_with_len}}
use Rattle.stn_lift.specs.{BaseBounds.step_of, PlanSource.{PlanSource, events_of}}
use Rattle.stn_records.specs.Content.{Content}
use Rattle.stn_site.specs.{Report.is_done, declared.own.{StepRange.StepRange, OwnedSteps.OwnedSteps, Own.Own}}

-- a plan of so many steps has all steps of the range
abbrev pub is_within : ℕ → StepRange → Bool
is_within steps range = nat_le 1 range.first && nat_le range.last steps

-- and all steps that sites are said to own
abbrev pub are_within : ℕ → List OwnedSteps → Bool
are_within steps owned = list_all (λ one. is_within steps one.steps) owned

-- the event is the start or the end of one of the steps
abbrev pub has : StepRange → ℕ → Bool
has range event = nat_le range.first (step_of event) && nat_le (step_of event) range.last

-- the event is the end of its step
abbrev pub is_end : ℕ → Bool
is_end event = event == 2 * step_of event

-- the site chooses the event: it is one of its steps', and no end where the site chooses starts alone
abbrev pub is_own : Own → ℕ → Bool
is_own own event = list_any (λ range. has range event) own.steps.now && not (own.starts && is_end event)

-- for each event of the plan, the origin first, whether it doesn't count as left: some live record says that it is done, or the site doesn't
-- choose it
abbrev pub done_or_others : Own → PlanSource → Content → List Bool
done_or_others own source state = map (λ event. is_done state event || not (is_own own event)) (range_with_len 0 (events_of source + 1))
