-- What a log says, taken in by a site, and saved.
use Rattle.std.proofs.Common.{rules, ◌≡◌, ℕ, List, Some, None, Result, Ok, Err, OnOk, OnErr, IfErr}
use Rattle.stn_effects.specs.Effects.{went}
use Rattle.stn_lift.specs.PlanSource.{PlanSource}
use Rattle.stn_records.specs.Content.{Content}
use Rattle.stn_site.specs.{Calls.{Accepted, Leaves, took}, Held.Held, Refusals.take_refusal}
use Rattle.stn_store.specs.{Log.log_held, Merging.IsMergeFailure, Steps.{Entries, Saves}}
use Rattle.stn_exchanges.specs.Joining.{FindsSaid, Joins, TakesLog, shared}
use Rattle.stn_line.specs.declared.words.SiteLog.{SiteLog}
use Rattle.stn_refusal.specs.declared.failure.{Failure.Failure, Fault.Fault}

-- a copy took in another one, or did not
module _ (Fails : Fault → Type 0) (ours theirs new : Held) (entries : Entries) where
  pub joined : ours.source ≡ theirs.source → Leaves ours (took theirs.state) new → take_refusal ours theirs.state ≡ None → Joins Fails ours theirs entries entries (Ok new.state)
  joined same left accepted = search rules

  pub not_joined : {failure : Failure} → IsMergeFailure ours theirs failure → Joins Fails ours theirs entries entries (Err failure)
  not_joined h = search rules

  -- by what a log says
  pub took_log : (log : SiteLog) (call : Result (Unit {0}) Failure) → FindsSaid Fails log entries entries (Ok (Some theirs)) → OnOk call (ours.source ≡ theirs.source)
      → OnOk call (Leaves ours (took theirs.state) new) → OnOk call (take_refusal ours theirs.state ≡ None) → IfErr call (IsMergeFailure ours theirs)
      → OnErr call (new.state ≡ ours.state) → TakesLog Fails log ours.source (shared ours.state entries) (shared new.state entries) call
  took_log log (Ok done) found same left accepted refused kept = went (Some theirs) entries found (joined same left accepted)
  took_log log (Err failure) found same left accepted refused kept = (went (Some theirs) entries found (not_joined refused), kept)

-- the plan and the site stay
pub source_stays : {T E : Type 0} (answer : Result T E) (call : Accepted) (old new : Held) → OnOk answer (Leaves old call new)
    → OnErr answer (new ≡ old) → new.source ≡ old.source
source_stays answer call old new left kept = search rules

pub site_stays : {T E : Type 0} (answer : Result T E) (call : Accepted) (old new : Held) → OnOk answer (Leaves old call new)
    → OnErr answer (new ≡ old) → new.site ≡ old.site
site_stays answer call old new left kept = search rules

-- a copy that stays
pub held_stays : {T E C : Type 0} (held : C → Held) (answer : Result T E) (old new : C) → OnErr answer (new ≡ old) → OnErr answer (held new ≡ held old)
held_stays held answer old new kept = search rules

pub state_stays : {T E : Type 0} (answer : Result T E) (old new : Held) → OnErr answer (new ≡ old) → OnErr answer (new.state ≡ old.state)
state_stays answer old new kept = search rules

-- a log that was saved, as this plan and this state
pub saves_as : (Fails : Fault → Type 0) (name : List ℕ) (plan : Held) {source : PlanSource} {state : Content} (old new : Entries) (ended : Result (Unit {0}) Failure)
    → plan.source ≡ source → plan.state ≡ state → Saves Fails name (log_held plan) old new ended → Saves Fails name (record { source = source; state = state }) old new ended
saves_as Fails name plan old new ended from left saved = search rules
