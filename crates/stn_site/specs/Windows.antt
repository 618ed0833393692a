use Rattle.std.specs.Prelude.{◌≡◌, ℕ, ℤ, pos, ◌+◌, ◌≤◌, List, length, slice_index_or}
use Rattle.stn_net.specs.{Difference.Difference, Schedule.HasSchedule, Windows.Window.IsWindow}

-- the earliest and the latest time at an event's place
abbrev pub window_at : List (ℤ × ℤ) → ℕ → ℤ × ℤ
window_at windows event = slice_index_or windows event (pos 0, pos 0)

-- the bounds have a schedule, and the windows are those of the origin and of so many events, in their order
pub record AreWindows (bounds : List Difference) (events : ℕ) (windows : List (ℤ × ℤ)) : Type 0 where
  pub possible : HasSchedule bounds
  pub one_each : length windows ≡ events + 1
  pub each : (event : ℕ) → event ≤ events → IsWindow bounds event (window_at windows event).0 (window_at windows event).1
