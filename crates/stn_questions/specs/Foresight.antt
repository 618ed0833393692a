-- For proofs alone: no public clause cites these words.
-- What a search finds of the events that are left.
use Rattle.std.specs.Prelude.{◌≡◌, ℕ, ℤ, ◌+◌, ◌≤◌, int_le, if◌then◌else◌, Bool, List, length, Option, Some, None}
use Rattle.stn_net.specs.{Event.most_events, Difference.Difference, Schedule.{HasSchedule, times_of}, Windows.{Dispatch.IsOverdue, Soonest.AreSoonest}}
use Rattle.stn_questions.specs.declared.foresight.Forecast.{Forecast as ForecastOfCode, TheVariants.{Conflict, Overdue, Soonest}}

-- the soonest times of so many events and the origin
pub record AreSoonestOf (bounds : List Difference) (events : ℕ) (done : List Bool) (now : ℤ) (times : List ℤ) : Type 0 where
  pub long : length times ≡ events + 1
  pub few : events ≤ most_events
  pub soonest : AreSoonest bounds done now (times_of times)

-- the bounds have no schedule; or the event is overdue; or these are the soonest times
abbrev pub IsForecast : {A : Type 0} → List Difference → ℕ → List Bool → ℤ → ForecastOfCode A → Type 0
IsForecast bounds events done now Conflict = ¬ HasSchedule bounds
IsForecast bounds events done now (Overdue event) = HasSchedule bounds × IsOverdue bounds done now event
IsForecast bounds events done now (Soonest times) = AreSoonestOf bounds events done now times.items

-- the lesser of the times; the second, where there is no first
abbrev pub earlier_time : Option ℤ → ℤ → ℤ
earlier_time None time = time
earlier_time (Some other) time = if int_le other time then other else time
