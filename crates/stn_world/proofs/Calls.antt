-- A call of a site's replica, as a step of the world.
use Rattle.std.{proofs.{Common.{rules, ◌≡◌, ℕ, ◌+◌, ◌-◌, ◌<◌, Bool, true, List, [], ◌∷◌, ◌++◌, length, Option, None, Result, Ok, Err, get_or, set, ap, sym, subst, ◌∙◌, arith, length-append}, lemmas.{List.set-get_or, Result.err_from_is_err_and}}, specs.{Prelude.{option_map, unwrap_or, ⊤, MatchResult, IfOk, IfErr, OnOk, OnErr}, Option.option_or, Result.IsErrAnd}}
use Rattle.stn_refusal.specs.{declared.failure.Failure.Failure, Refusals.out_of_memory}
use Rattle.stn_lift.specs.PlanSource.{PlanSource}
use Rattle.stn_records.specs.{Id.SiteCounter, Content.Content}
use Rattle.stn_site.specs.{Held.Held, declared.{faults.ReplicaFault.ReplicaFault, change.Change.Change}, Change.{change_call, change_id, change_refusal}, Failures.replica_failure, Refusals.take_refusal, Calls.{Accepted, took, Leaves, LeavesState}}
use Rattle.stn_site.specs.declared.faults.ReplicaFault.TheVariants as replica_fault
use Rattle.stn_world.{specs.{Sites.world_of, Whole.{IsCoherent, IsSoundWorld}, World.{World, most_packets, HasSite, held_at, next_id_at, content_after, with_call, send}, Steps.{Step, changed, sent, missing, step_refusal, IsAccepted, after, IsStep, send_refusal, IsSending}}, proofs.{Accepted.refused_by, Sendings.send_free, Whole.coherent_after, Sites.{IsHeldAt, held_is, held_there, take_refusal_at, world_set, sites_set}}}

-- what a replica answers to a call that one thing refuses, what it becomes, and the same as the world's answer
pub record IsAnswer {T : Type 0} (one : Held) (refusal : Option ReplicaFault) (accepted : T → Accepted) (Given : T → Type 0) (answer : Result T ReplicaFault) (new : Held) (result : Result T Failure) : Type 0 where
  pub free : OnOk answer (refusal ≡ None)
  pub leaves : IfOk answer (λ x. Leaves one (accepted x) new)
  pub given : IfOk answer Given
  pub fault : IfErr answer (λ fault. fault ≡ unwrap_or refusal replica_fault.Memory)
  pub kept : OnErr answer (new ≡ one)
  pub same : MatchResult answer (λ x. result ≡ Ok x) (λ fault. IsErrAnd result (λ made. made ≡ replica_failure fault))

-- the answer is the step's and gives what the step gives, and the replicas are a world's
pub record IsTaken {T : Type 0} (world : World) (source : PlanSource) (replicas : List Held) (packets : List Content) (call : Step) (Given : T → Type 0) (result : Result T Failure) : Type 0 where
  pub sound : IsSoundWorld source replicas packets
  pub step : IsStep world call result (world_of source replicas packets)
  pub given : IfOk result Given

-- the state that a call leaves
content_left : (old : Held) (call : Accepted) {new : Content} → LeavesState old call new → new ≡ content_after old.state call
content_left old call left = search rules

-- a change is refused alike, whatever work was done
refused_idle : (one : Held) (steps : ℕ) (asked : Change) → change_refusal (record one { steps = steps }) asked ≡ change_refusal one asked
refused_idle one steps asked = grind (arith)

-- the call that a change is under the id that it gives
call_given : (asked : Change) {id : SiteCounter} (next : SiteCounter) → id ≡ change_id asked next → change_call asked id ≡ change_call asked next
call_given asked next is = grind (arith)

-- a replica stands at the place of a site of a sound world
pub record IsPlaced (world : World) (source : PlanSource) (replicas : List Held) (packets : List Content) (place site : ℕ) (one : Held) : Type 0 where
  pub is : world_of source replicas packets ≡ world
  pub sound : IsSoundWorld source replicas packets
  pub at : place ≡ site - 1
  pub there : HasSite world site
  pub same : one ≡ get_or replicas place one

module _ {world : World} {source : PlanSource} {replicas : List Held} {packets : List Content} {place site : ℕ} {one : Held} (placed : IsPlaced world source replicas packets place site one) where
  pub held : IsHeldAt world site one
  held = search (rules, held_there)

  refused_as : {mine cause : Option ReplicaFault} → mine ≡ cause → option_or (missing world site) (option_map replica_failure cause) ≡ option_map replica_failure mine
  refused_as same = search rules

  -- ---- a replica that stays as it was
  set_stayed : {new : Held} → new ≡ one → set replicas place new ≡ replicas
  set_stayed same = cc (set-get_or replicas place one)

  pub world_stayed : {new : Held} → new ≡ one → world_of source (set replicas place new) packets ≡ world
  world_stayed {new} same = cc (set_stayed same)

  -- ---- what an accepted call leaves
  call_there : {new : Held} {call : Accepted} → Leaves one call new → world_of source (set replicas place new) packets ≡ with_call world site call
  call_there {new} {call} left =
      world_set replicas site new (sym placed.is) placed.at
      (content_left one call left.state ∙ ap (λ (c : Content). content_after c call) held.state)

  -- ---- a call that is refused as the step is, and leaves what the step leaves
  step_taken : {T : Type 0} {step : Step} (Given : T → Type 0) {refusal : Option ReplicaFault} {accepted : T → Accepted} → step_refusal world step ≡ option_map replica_failure refusal
      → ((x : T) → Given x → with_call world site (accepted x) ≡ after world step)
      → (answer : Result T ReplicaFault) {new : Held} {result : Result T Failure} → IsAnswer one refusal accepted Given answer new result
      → IsTaken world source (set replicas place new) packets step Given result
  step_taken {step} Given {accepted} refused made (Ok x) {new} is =
      let free = refused ∙ ap (option_map replica_failure) is.free in
      let left : world_of source (set replicas place new) packets ≡ after world step = call_there is.leaves ∙ made x is.given in
      rw is.same (record {
        sound = record {
          sites = sites_set place new one placed.sound.sites (is.leaves.site ∙ ap (λ (r : Held). r.site) placed.same) (is.leaves.source ∙ ap (λ (r : Held). r.source) placed.same);
          few = placed.sound.few;
          coherent = subst IsCoherent (sym left) (coherent_after world step free (subst IsCoherent placed.is placed.sound.coherent));
        };
        step = (free, left);
        given = is.given;
      })
  step_taken {step} Given {refusal} refused made (Err fault) {new} {result} is =
      let p = err_from_is_err_and result is.same in
      rw (p.1, p.2) (record {
        sound = subst (λ (l : List Held). IsSoundWorld source l packets) (sym (set_stayed is.kept)) placed.sound;
        step = (refused_by refusal is.fault ∙ ap (λ o. unwrap_or o out_of_memory) (sym refused), world_stayed is.kept);
        given = tt;
      })

  -- ---- each call
  pub change_taken : {asked : Change} (answer : Result SiteCounter ReplicaFault) (new : Held) (result : Result SiteCounter Failure)
      → IsAnswer one (change_refusal one asked) (change_call asked) (λ id. id ≡ change_id asked (next_id_at world site)) answer new result
      → IsTaken world source (set replicas place new) packets (changed site asked) (λ id. id ≡ change_id asked (next_id_at world site)) result
  change_taken {asked} =
      step_taken (λ id. id ≡ change_id asked (next_id_at world site))
      (refused_as (ap (λ (h : Held). change_refusal h asked) (held_is held) ∙ refused_idle (held_at world site) one.steps asked))
      (λ id given. ap (with_call world site) (call_given asked (next_id_at world site) given))

  -- that takes in what another site or a packet holds
  module _ (step : Step) (theirs other : Content) (holds : theirs ≡ other) (refused : step_refusal world step ≡ option_map replica_failure (take_refusal (held_at world site) other)) where
    refusal_there : take_refusal one theirs ≡ take_refusal (held_at world site) other
    refusal_there = take_refusal_at held holds

    pub take_taken : {T : Type 0} → with_call world site (took other) ≡ after world step → (answer : Result T ReplicaFault) (new : Held) (result : Result T Failure)
        → IsAnswer one (take_refusal one theirs) (λ _. took theirs) (λ _. ⊤) answer new result → IsTaken world source (set replicas place new) packets step (λ _. ⊤) result
    take_taken left =
        step_taken (λ _. ⊤) (refused ∙ ap (option_map replica_failure) (sym refusal_there))
        (λ _ _. ap (λ (c : Content). with_call world site (took c)) holds ∙ left)

    -- is of a kind where each such fault is, in a coherent world
    pub take_agreed : {T : Type 0} (P : Failure → Type 0) → ((fault : ReplicaFault) → IsCoherent world → fault ≡ unwrap_or (take_refusal (held_at world site) other) replica_fault.Memory → P (replica_failure fault))
        → (answer : Result T ReplicaFault) {new : Held} {result : Result T Failure} → IsAnswer one (take_refusal one theirs) (λ _. took theirs) (λ _. ⊤) answer new result → IfErr result P
    take_agreed P agrees (Ok x) is = rw is.same tt
    take_agreed P agrees (Err fault) {result} is =
        let p = err_from_is_err_and result is.same in
        rw (p.1, p.2) (agrees fault (subst IsCoherent placed.is placed.sound.coherent) (is.fault ∙ ap (λ o. unwrap_or o replica_fault.Memory) refusal_there))

-- a packet that a site sends where there is room for it
module _ {world : World} {source : PlanSource} {replicas : List Held} {packets : List Content} {place site : ℕ} {one : Held} (placed : IsPlaced world source replicas packets place site one) (room : length world.packets < most_packets)
    (part theirs : Content) (new : List Content) (same : theirs ≡ part) (free : IsCoherent world → IsAccepted world (sent site part)) (pushed : new ≡ packets ++ theirs ∷ []) where
  coherent : IsCoherent world
  coherent = subst IsCoherent placed.is placed.sound.coherent

  sent_there : world_of source replicas new ≡ send world part
  sent_there = cc

  pub sent_sound : IsSoundWorld source replicas new
  sent_sound = record {
    sites = placed.sound.sites;
    few = omega (arith, ap length pushed, length-append packets (theirs ∷ []), ap (λ (w : World). length w.packets) placed.is, room);
    coherent = subst IsCoherent (sym sent_there) (coherent_after world (sent site part) (free coherent) coherent);
  }

  pub sent_taken : {held : Bool} → held ≡ true → {number : ℕ} → number ≡ length world.packets + 1 → IsSending world (sent site part) (send_refusal world site held) (Ok number) (world_of source replicas new)
  sent_taken {held} all is = grind (arith, send_free, held, coherent, sent_there)
