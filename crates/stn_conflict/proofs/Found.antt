-- What is told of a cycle or a way that was looked for, if it was found.
use Rattle.std.{proofs.Common.{rules, ℕ, List, Option, Result}, specs.Prelude.{◌↔◌, IfOk, IfSome, IsNone, MatchOption}}
use Rattle.stn_net.specs.{Difference.Difference, Schedule.HasSchedule}
use Rattle.stn_conflict.specs.{declared.links.Cycle.Cycle, Search.IsCycleOf}

module _ {X E : Type 0} where
  found_some : (result : Result (Option X) E) (P : Type 0) (Q R : X → Type 0) → IfOk result (λ found. MatchOption found P Q) → ((x : X) → Q x → R x)
      → IfOk result (λ found. IfSome found R)
  found_some result P Q R h so = search rules

  -- nothing is found exactly where P holds, if nothing that is found goes with P
  pub found_none : (result : Result (Option X) E) (P : Type 0) (Q : X → Type 0) → IfOk result (λ found. MatchOption found P Q) → ((x : X) → Q x → ¬ P)
      → IfOk result (λ found. IsNone found ↔ P)
  found_none result P Q h apart = search rules

module _ {A E : Type 0} where
  pub told_of_cycle : {bounds : List Difference} {events : ℕ} (result : Result (Option (Cycle A)) E)
      → IfOk result (λ found. MatchOption found (HasSchedule bounds) (λ cycle. IsCycleOf bounds events cycle.links.items cycle.sum))
      → (R : Cycle A → Type 0) → ((cycle : Cycle A) → IsCycleOf bounds events cycle.links.items cycle.sum → R cycle) → IfOk result (λ found. IfSome found R)
  told_of_cycle result h R so = found_some result _ _ R h so
