-- The guard of what a site holds, from the owners of its steps.
use Rattle.std.{proofs.{Common.{rules, ◌≡◌, ◌⊎◌, ℕ, ◌+◌, ◌<◌, ◌≤◌, List, ◌++◌, map, Option, Some, None, Result, Ok, Err, unwrap_or, ap, subst, ◌∙◌, arith}, lemmas.List.FromFn.get_or-map-range_with_len}, specs.{Prelude.{Vec, All, IsNone, IfOk, IfSome, MatchOption, ◌↔◌}, List.range_with_len}}
use Rattle.stn_net.specs.{Difference.{Difference, NamesEvents}, Schedule.HasSchedule}
use Rattle.stn_lift.specs.PlanSource.{events_of, base_bounds}
use Rattle.stn_site.specs.{declared.{faults.ReplicaFault.{ReplicaFault, TheVariants.Memory}, own.OwnedSteps.OwnedSteps}, Bounds.{live_bounds, all_bounds}, Held.Held}
use Rattle.stn_guard.{specs.{Owners.owner_of, Guard.Guards, Making.{AreSharedWindows, IsGuardOf}, Adding.owner_by, Putting.MakesGuard}, proofs.{Gluing.guarded_possible, SameOwners.{guard_named, same_guard, same_guards}}}

-- what was made of these bounds, with the owners as a list
pub record IsMadeOf (owners : List ℕ) (events : ℕ) (bounds guard : List Difference) : Type 0 where
  pub guards : Guards (owner_of owners) bounds guard
  pub windows : AreSharedWindows (owner_of owners) events bounds (bounds ++ guard) guard
  pub made : IsGuardOf (owner_of owners) events bounds guard

pub made_here : {owned : List OwnedSteps} {held : Held} {owners : List ℕ} {base extra guard : List Difference} {events : ℕ} → events ≡ events_of held.source
    → owners ≡ map (owner_by held.site owned) (range_with_len 0 (events_of held.source + 1)) → base ≡ base_bounds held.source → extra ≡ live_bounds held.state
    → HasSchedule (all_bounds held.source held.state) → All (NamesEvents (events_of held.source)) (all_bounds held.source held.state)
    → IsMadeOf owners events (base ++ extra) guard → MakesGuard owned held guard
made_here {owned} {held} {owners} {base} {extra} {guard} many list base_is extra_is possible named made =
    let bounds = all_bounds held.source held.state in
    let here : IsMadeOf owners (events_of held.source) bounds guard =
    subst (λ (l : List Difference). IsMadeOf owners (events_of held.source) l guard) (λ i. base_is i ++ extra_is i) (subst (λ n. IsMadeOf owners n (base ++ extra) guard) many made) in
    let same : (event : ℕ) → 0 < event → event ≤ events_of held.source → owner_of owners event ≡ owner_by held.site owned event = (λ event beside within.
    ap (λ (l : List ℕ). owner_of l event) list
    ∙ get_or-map-range_with_len (owner_by held.site owned) 0 (events_of held.source + 1) event event 0 (omega arith) (omega arith)) in
    let are = guard_named here.windows in record {
      possible = possible;
      is_guard = same_guard (owner_of owners) (owner_by held.site owned) (events_of held.source) same bounds named here.made;
      guards = same_guards (owner_of owners) (owner_by held.site owned) (events_of held.source) same named are here.guards;
      named = are;
    }

-- what was found for these bounds
module _ {A E : Type 0} (owned : List OwnedSteps) (held : Held) (owners : List ℕ) (base extra : List Difference) (events : ℕ) (many : events ≡ events_of held.source)
    (list : owners ≡ map (owner_by held.site owned) (range_with_len 0 (events_of held.source + 1))) (base_is : base ≡ base_bounds held.source) (extra_is : extra ≡ live_bounds held.state)
    (named : All (NamesEvents (events_of held.source)) (all_bounds held.source held.state)) where
  pub guard_found : (r : Result (Option (Vec Difference A)) E) → IfOk r (λ found. IsNone found ↔ ¬ HasSchedule (base ++ extra))
      → IfOk r (λ found. IfSome found (λ guard. Guards (owner_of owners) (base ++ extra) guard.items))
      → IfOk r (λ found. IfSome found (λ guard. AreSharedWindows (owner_of owners) events (base ++ extra) ((base ++ extra) ++ guard.items) guard.items))
      → IfOk r (λ found. IfSome found (λ guard. IsGuardOf (owner_of owners) events (base ++ extra) guard.items))
      → IfOk r (λ found. MatchOption found (¬ HasSchedule (all_bounds held.source held.state)) (λ guard. MakesGuard owned held guard.items))
  guard_found (Ok (Some guard)) none guards windows made =
      made_here many list base_is extra_is (subst HasSchedule (λ i. base_is i ++ extra_is i) (guarded_possible (owner_of owners) (base ++ extra) guard.items guards))
      named (record { guards = guards; windows = windows; made = made })
  guard_found (Ok None) none guards windows made = search rules
  guard_found (Err e) none guards windows made = tt

-- a fault is a cause that was given, or lack of memory
pub cause_or_memory : {cause : Option ReplicaFault} {fault : ReplicaFault} → fault ≡ unwrap_or cause Memory → (fault ≡ Memory) ⊎ (Some fault ≡ cause)
cause_or_memory is = search rules
