use Rattle.std.proofs.Common.{◌≡◌, ℕ, ℤ, ◌≤ℤ◌, ◌≤◌, List, All, Some}
use Rattle.stn_net.specs.{Difference.Difference, Schedule.times_of, Windows.{Dispatch.AreReadyTimes, Leading.AreReadyAt}}
use Rattle.stn_questions.proofs.ReadyLists.{HasEachBelow, counted}
use Rattle.stn_questions.proofs.ready.ready_until.Given as goal

abbrev pub invariant-loop-number : goal.invariant-loop-number
invariant-loop-number g l = record {
  times : (bounds : List Difference) (events : ℕ) (latest : ℕ → ℤ) → AreReadyAt bounds events l.done (times_of l.earliest) latest (times_of l.times) l.fn.last → l.fn.now ≤ℤ l.fn.last
      → All (λ one. AreReadyTimes bounds l.done l.fn.now one.event (Some (one.first, one.last))) l.ready.items;
  once : (bounds : List Difference) (events : ℕ) (latest : ℕ → ℤ) → AreReadyAt bounds events l.done (times_of l.earliest) latest (times_of l.times) l.fn.last → l.fn.now ≤ℤ l.fn.last
      → HasEachBelow bounds l.done l.fn.now l.number l.ready.items;
  none : (event : ℕ) → l.number ≤ event → counted l.ready.items event ≡ 0;
}
