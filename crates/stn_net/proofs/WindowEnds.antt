use Rattle.std.{proofs.{Common.{rules, ◌≡◌, ℕ, ℤ, pos, ◌≤◌, ◌+ℤ◌, ◌≤ℤ◌, neg_ℤ, List, refl, arith}, lemmas.{Grind.common_steps, Int.{ints, clamps}}}, specs.Int.int_min}
use Rattle.stn_net.{specs.{Difference.Difference, Schedule.{IsSchedule, HasSchedule}, Matrix.{Table.{Table, far_of}, Tightest.{IsExact, IsTightest}}, Windows.Window.{IsInWindow, IsWindow}}, proofs.Ranges.{one_pair, range_of_ends}}

-- a window has one pair of ends, where there is a schedule
pub one_window : (bounds : List Difference) (event : ℕ) (earliest latest first last : ℤ) → HasSchedule bounds
    → IsWindow bounds event earliest latest → IsWindow bounds event first last → (earliest ≡ first) × (latest ≡ last)
one_window bounds event earliest latest first last possible = one_pair (IsInWindow bounds event) _ earliest latest first last (possible.0, possible.1, refl)

-- the lesser of one schedule and of another that is put off, as long as neither passes the origin, is a schedule
pub lesser_schedule : (bounds : List Difference) (late early : ℕ → ℤ) (delay : ℤ) → IsSchedule bounds late → IsSchedule bounds early → pos 0 ≤ℤ delay
    → IsSchedule bounds (λ y. int_min (late y) (early y +ℤ delay))
lesser_schedule bounds late early delay is_late is_early after = search (rules, common_steps, ints, clamps)

-- an event's window is the range of the origin and the event
pub window_of_ends : (bounds : List Difference) (event : ℕ) (back far : ℤ) → IsTightest bounds event 0 back → IsTightest bounds 0 event far
    → IsWindow bounds event (neg_ℤ back) far
window_of_ends bounds event back far early late = λ time.
    let (within, taken) = range_of_ends bounds 0 event back far early late time in (
      (λ s. within (s.0, s.1, (let origin = s.1.origin in let takes = s.2 in omega (arith, ints)))),
      (λ between. (let (times, is, apart) = taken between in let origin = is.origin in (times, is, omega (arith, ints)))),
    )

-- those ends stand in the row and the column of the origin of an exact table
pub window_of_exact : (bounds : List Difference) (table : Table) (event : ℕ) → IsExact bounds table → event ≤ table.events
    → IsWindow bounds event (neg_ℤ (far_of table event 0)) (far_of table 0 event)
window_of_exact bounds table event exact within =
    window_of_ends bounds event (far_of table event 0) (far_of table 0 event) (exact.far event 0 within (omega arith)) (exact.far 0 event (omega arith) within)
