-- The text of a rehearsal, and the one event for which it is refused.
use Rattle.std.{proofs.{lemmas.Grind.common_steps, Common.{arith, ◌≡◌, ℕ, ◌≤◌, ℤ, List, ◌++◌, length, take, Result, OnOk}}, specs.{Prelude.{if◌then◌else◌, is_ok, codes}, List.flat_map}}
use Rattle.stn_net.specs.declared.windows.answers.Next.{Next, TheVariants.{Run, AllDone, Overdue}}
use Rattle.stn_site.specs.{Lines.line}
use Rattle.stn_command.specs.Dispatch.{run_line, runs_text}

-- the lines of all runs, and the last line
pub runs_ended : {T E : Type 0} (result : Result T E) (runs : List (ℤ × ℕ)) (place : ℕ) (old lines new : List ℕ) → length runs ≤ place
    → lines ≡ old ++ flat_map (λ run. run_line run.0 run.1) (take place runs) → new ≡ (if is_ok result then lines ++ line (codes "all done") else lines) → OnOk result (new ≡ old ++ runs_text runs)
runs_ended result runs place old lines new past each last = grind (arith, common_steps)

-- the event of an answer that names one as overdue
abbrev overdue_event : Next → ℕ
overdue_event (Overdue event) = event
overdue_event (Run time event) = event
overdue_event AllDone = 0
