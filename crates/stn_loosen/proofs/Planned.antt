-- The planned times of all events as a list.
use Rattle.std.proofs.{Common.{rules, ◌≡◌, ℕ, ℤ, pos, ◌+◌, ◌<◌, List, length}, lemmas.List.get_or_past}
use Rattle.stn_lift.{proofs.TimelineFacts.length-times_behind, specs.PlanSource.{PlanSource, events_of, planned_of}}
use Rattle.stn_net.specs.Schedule.{times_of}

-- an event that the plan has not is planned at 0
past : (source : PlanSource) (event : ℕ) → events_of source < event → planned_of source event ≡ pos 0
past source event after = search (rules, get_or_past, length-times_behind)

-- the list of the planned times of all events gives those of each number
pub same_times : (source : PlanSource) (times : List ℤ) → length times ≡ events_of source + 1 → ((event : ℕ) → event < events_of source + 1 → times_of times event ≡ planned_of source event)
    → times_of times ≡ planned_of source
same_times source times many timed = search (rules, get_or_past, past)
