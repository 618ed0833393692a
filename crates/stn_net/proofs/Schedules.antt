-- Schedules of bounds and more, and of bounds in another order.
use Rattle.std.{proofs.{Common.{rules, ℕ, ℤ, List, ◌++◌, All}, lemmas.List.{Elements.All-append, Sorted.{All-permutation, IsPermutation-sym}}}, specs.List.Sorted.IsPermutation}
use Rattle.stn_time.proofs.Each.{All-right}
use Rattle.stn_net.{specs.{Difference.Difference, Schedule.{IsSchedule, Meets}, Matrix.{Table.Table, Tightest.IsExact}}, proofs.Tightest.exact_same_schedules}

-- a schedule of bounds and more meets those after
pub met_behind : (bounds more : List Difference) (time : ℕ → ℤ) → IsSchedule (bounds ++ more) time → All (Meets time) more
met_behind bounds more time s = All-right (Meets time) bounds more s.met

-- a schedule that meets more bounds is one of all
pub schedule_with : (bounds more : List Difference) (time : ℕ → ℤ) → IsSchedule bounds time → All (Meets time) more → IsSchedule (bounds ++ more) time
schedule_with bounds more time s met = search (rules, All-append)

-- bounds in another order have the same schedules
pub schedule_permuted : (these those : List Difference) → IsPermutation these those → (time : ℕ → ℤ) → IsSchedule these time → IsSchedule those time
schedule_permuted these those moved time s = search (rules, All-permutation)

-- a table that is exact for bounds is so for them in another order
pub exact_permuted : (these those : List Difference) (table : Table) → IsPermutation these those → IsExact these table → IsExact those table
exact_permuted these those table moved exact = search (rules, exact_same_schedules, schedule_permuted, IsPermutation-sym, All-permutation)
