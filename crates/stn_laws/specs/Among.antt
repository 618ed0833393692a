-- What is said of some of a plan's events alone.
use Rattle.std.specs.{Prelude.{ℕ, ℤ, ◌+◌, Bool, not, ◌||◌, List, map}, List.range_with_len}
use Rattle.stn_lift.specs.PlanSource.{PlanSource, events_of}
use Rattle.stn_records.specs.Content.{Content}
use Rattle.stn_site.specs.{Bounds.all_bounds, Report.is_done}
use Rattle.stn_questions.specs.Ready.{IsReadyWith}

-- for each event of the plan, the origin first, that it doesn't count as left: some live record says that it is done, or it is not asked about
abbrev pub done_or_unasked : (ℕ → Bool) → PlanSource → Content → List Bool
done_or_unasked asked source state = map (λ event. is_done state event || not (asked event)) (range_with_len 0 (events_of source + 1))

-- the text that `ready` prints from now on of the events that are asked about
abbrev pub IsReadyAmong : (ℕ → Bool) → PlanSource → Content → ℤ → List ℕ → Type 0
IsReadyAmong asked source state now text = IsReadyWith (all_bounds source state) (done_or_unasked asked source state) now text
