use Rattle.std.{proofs.Common.{rules, ◌≢◌, ℕ, ℤ, true, Bool, List, [], ◌∷◌, ◌++◌, refl, append_assoc, append-nil}, specs.Prelude.slice_set}
use Rattle.stn_net.specs.{Difference.Difference, Schedule.HasSchedule, Matrix.{Table.Table, Tightest.IsExact}, declared.windows.answers.Next.{Next, TheVariants.{Run, AllDone, Overdue}}, Windows.{Dispatch.{IsFirstReady, IsNext}, Rehearsal.{fixed_at, IsRehearsal}}}
use Rattle.stn_matrix.proofs.Rehearsals.{ready_can_be_fixed, none_overdue_after}

-- a rehearsal has come so far: the table is exact for the bounds and those fixed since, the answer comes next there and is no overdue
-- event, and whatever goes on from there goes on from the runs so far
pub record IsUnderWay (bounds : List Difference) (done : List Bool) (now : ℤ) (runs : List (ℤ × ℕ)) (table : Table) (finished : List Bool) (answer : Next) : Type 0 where
  pub fixed : List Difference
  pub time : ℤ
  pub exact : IsExact fixed table
  pub next : IsNext fixed finished time answer
  pub in_time : (event : ℕ) → answer ≢ Overdue event
  pub goes_on : (more : List (ℤ × ℕ)) → IsRehearsal fixed finished time more → IsRehearsal bounds done now (runs ++ more)

-- at first nothing has run
pub under_way_at_first : (bounds : List Difference) (done : List Bool) (now : ℤ) (table : Table) (answer : Next) → IsExact bounds table → IsNext bounds done now answer
    → ((event : ℕ) → answer ≢ Overdue event) → IsUnderWay bounds done now [] table done answer
under_way_at_first bounds done now table answer exact next in_time = search rules

-- then one more event has run
pub under_way_further : (bounds : List Difference) (done : List Bool) (now : ℤ) (runs : List (ℤ × ℕ)) (table other : Table) (finished : List Bool) (time : ℤ) (event : ℕ) (answer : Next)
    → IsUnderWay bounds done now runs table finished (Run time event)
    → ((known : List Difference) → IsExact known table → HasSchedule (known ++ fixed_at time event ∷ []) → IsExact (known ++ fixed_at time event ∷ []) other)
    → ((known : List Difference) → IsExact known other → IsNext known (slice_set finished event true) time answer)
    → IsUnderWay bounds done now (runs ++ (time, event) ∷ []) other (slice_set finished event true) answer
under_way_further bounds done now runs table other finished time event answer under fix next =
    let first : IsFirstReady under.fixed finished under.time time event = under.next in
    let exact = fix under.fixed under.exact (ready_can_be_fixed under.fixed finished time event first.ready) in
    let then : IsNext (under.fixed ++ fixed_at time event ∷ []) (slice_set finished event true) time answer = next (under.fixed ++ fixed_at time event ∷ []) exact in
    record {
      fixed = under.fixed ++ fixed_at time event ∷ [];
      time = time;
      exact = exact;
      next = then;
      in_time = λ late same. none_overdue_after under.fixed finished time event late first.ready (rw same at then);
      goes_on = λ more rehearsal. rw append_assoc (under.goes_on ((time, event) ∷ more) (first, rehearsal));
    }

-- at last no run comes next, and the runs are a rehearsal
pub rehearsal_at_end : (bounds : List Difference) (done : List Bool) (now : ℤ) (runs : List (ℤ × ℕ)) (table : Table) (finished : List Bool) (answer : Next)
    → IsUnderWay bounds done now runs table finished answer → ((time : ℤ) (event : ℕ) → answer ≢ Run time event) → IsRehearsal bounds done now runs
rehearsal_at_end bounds done now runs table finished (Run time event) under none = absurd (none time event refl)
rehearsal_at_end bounds done now runs table finished AllDone under none = rw (append-nil runs) at (under.goes_on [] under.next)
rehearsal_at_end bounds done now runs table finished (Overdue event) under none = absurd (under.in_time event refl)
