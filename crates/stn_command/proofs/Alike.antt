-- What is said, and why not, depends on the plan and on what the site holds alone.
use Rattle.std.proofs.Common.{rules, ◌≡◌, ◌⊎◌, ℕ, ℤ, Bool, List, Vec, Some, None, Result, MatchResult, IsErrOf}
use Rattle.stn_refusal.specs.{declared.failure.Failure.Failure, Refusals.out_of_memory}
use Rattle.stn_net.specs.{declared.windows.answers.RehearseFault.RehearseFault, Windows.Failures.rehearse_failure}
use Rattle.stn_net.specs.declared.windows.answers.RehearseFault.TheVariants as rehearse_fault
use Rattle.stn_lift.specs.PlanSource.{PlanSource}
use Rattle.stn_records.specs.Content.{Content}
use Rattle.stn_site.specs.{Held.Held}
use Rattle.stn_command.specs.{Dispatch.IsOverdueAt, Query.{Query, IsSaid, IsRehearseRefusal, IsQueryRefusal, LacksMemory, Says}}

module _ (one other : Held) (plan : one.source ≡ other.source) (state : one.state ≡ other.state) where
  along : (Holds : PlanSource → Content → Type 0) → Holds one.source one.state → Holds other.source other.state
  along Holds is = search rules

  -- what is said of a site's copy of a plan is said of each other that holds the same
  pub said_of : {A : Type 0} (query : Query) (result : Result (Vec ℕ A) Failure) → Says query one result
      → MatchResult result (λ text. IsSaid query other text.items × IsQueryRefusal query other None)
      (λ failure. (failure ≡ out_of_memory) ⊎ IsQueryRefusal query other (Some failure))
  said_of query result says = search rules

-- why a rehearsal ended without its text
pub unrehearsed : (held : Held) (done : List Bool) (now : ℤ) (fault : RehearseFault) (failure : Failure) → failure ≡ rehearse_failure fault
    → (fault ≡ rehearse_fault.Memory) ⊎ ((event : ℕ) × (fault ≡ rehearse_fault.Overdue event) × IsOverdueAt held.source held.state done now event)
    → IsRehearseRefusal held.source held.state done now (Some failure) ⊎ (failure ≡ out_of_memory)
unrehearsed held done now fault failure gives h6 = search rules

-- where nothing is said for lack of memory, it may run out
pub memory_of : {A : Type 0} (held : Held) (query : Query) (result : Result (Vec ℕ A) Failure) → Says query held result → IsErrOf result out_of_memory → LacksMemory query held
memory_of held query result says is = search rules
