-- What a change of a site's plan makes of its live records, and a matrix that has caught up with it.
use Rattle.std.{proofs.{Common.{rules, ◌≡◌, ◌≤◌, Bool, true, false, List, [], ◌∷◌, ◌++◌, Some, None, inl, sym, ap, subst, ◌∙◌}, lemmas.{Option.same_Some, Bool.false≢true}}, specs.FinMap.get}
use Rattle.stn_net.specs.{Difference.Difference, Matrix.{Table.Table, Tightest.IsExact}}
use Rattle.stn_lift.specs.PlanSource.{PlanSource, events_of}
use Rattle.stn_records.{specs.{Id.SiteCounter, declared.record.Record.Record, ContentLaws.contents_join, Content.{Content, is_known, is_live, replacement, plain, one_amendment}}, proofs.{Counters.next_is_new, OneItem.inserted_here}}
use Rattle.stn_site.{specs.{Bounds.{live_bounds, RecordsName}, Held.{Held, next_id}, Calls.{added, amended, Leaves}, Change.{change_call, change_id, change_refusal, IsAgain}, declared.change.Change.{Change, TheVariants.{Add, Amend, Withdraw, Done}}, Growth.KeepsLive}, proofs.{Refused.amended_known, Changes.{IsGrown, grown_with_record, grown_with_amendment, falls_with_amendment, withdrawn_replaced, withdrawn_dead}}}
use Rattle.stn_replica.{specs.Invariant.{IsSettled, IsSoundReplica, stops_live}, proofs.Sound.{sound_added, sound_dead}}

-- the site's next id is not known
next_unknown : (held : Held) {id : SiteCounter} → id ≡ next_id held → is_known held.state id ≡ false
next_unknown held is = search (rules, next_is_new)

-- ---- what an accepted call makes of the live records
pub grown_by_addition : {old new : Held} {id : SiteCounter} {r : Record} → Leaves old (added id r) new → IsGrown old.state new.state id r
grown_by_addition {old} {id} {r} leaves =
    subst (λ state. IsGrown old.state state id r) (sym leaves.state.1) (grown_with_record old.state id r (next_unknown old leaves.state.0))

module _ (old new : Held) (id replaced : SiteCounter) (bound : Difference) (leaves : Leaves old (amended id replaced bound) new) where
  -- the new id replaces no other id
  agrees : {z : SiteCounter} → get old.state.replacements id ≡ Some z → z ≡ replaced
  agrees {z} there =
      let stays : get new.state.replacements id ≡ Some z = (contents_join.union old.state (one_amendment id replaced bound) new.state leaves.state.2 (replacement id z)).1 (inl there) in
      search (rules, same_Some, inserted_here)

  pub grown_by_amendment : is_known old.state replaced ≡ true → is_live old.state replaced ≡ false → IsGrown old.state new.state id (plain bound)
  grown_by_amendment known dead = search (rules, grown_with_amendment, agrees, next_unknown)

  pub falls_by_amendment : is_live old.state replaced ≡ true → ¬ KeepsLive old.state new.state
  falls_by_amendment live = search (rules, falls_with_amendment, agrees)

-- the record that has been added is live
never : {P : Type 0} {old new : Content} {id : SiteCounter} {one : Record} → IsGrown old new id one → is_live new id ≡ false → P
never {old = old} {new = new} {id = id} more dead = cc

-- where a change stops a live record, a live record has stopped being so
pub falls_by_change : {old new : Held} (asked : Change) (id : SiteCounter) → Leaves old (change_call asked id) new → stops_live asked old.state ≡ true → ¬ KeepsLive old.state new.state
falls_by_change (Add bound) id leaves stops = absurd (false≢true stops)
falls_by_change (Amend replaced bound) id leaves stops = search (rules, falls_by_amendment)
falls_by_change (Withdraw gone) id leaves stops = search (rules, withdrawn_dead)
falls_by_change (Done event time) id leaves stops = absurd (false≢true stops)

-- where it stops none and its id is live, the record of this id has become so, and no other changes
pub grown_by_change : {old new : Held} (asked : Change) {id : SiteCounter} → Leaves old (change_call asked id) new → id ≡ change_id asked (next_id old) → change_refusal old asked ≡ None
    → stops_live asked old.state ≡ false → is_live new.state id ≡ true → (one : Record) × IsGrown old.state new.state id one
grown_by_change (Add bound) leaves is free kept live = search (rules, grown_by_addition)
grown_by_change {old} {new} (Amend replaced bound) {id} leaves is free kept live = (plain bound, grown_by_amendment old new id replaced bound leaves (amended_known old replaced bound free) kept)
grown_by_change (Withdraw gone) leaves is free kept live = search (rules, withdrawn_dead)
grown_by_change (Done event time) leaves is free kept live = search (rules, grown_by_addition)

-- where its id is not live, the replica stays sound without work
pub unlive_by_change : {old new : Held} (asked : Change) (id : SiteCounter) {opening current : Table} {possible : Bool} → Leaves old (change_call asked id) new → change_refusal old asked ≡ None
    → stops_live asked old.state ≡ false → is_live new.state id ≡ false → IsSoundReplica old.source old.state opening current possible → IsSoundReplica new.source new.state opening current possible
unlive_by_change {old} {new} (Add bound) id leaves free kept dead sound = never (grown_by_addition leaves) dead
unlive_by_change {old} {new} (Amend replaced bound) id leaves free kept dead sound =
    never (grown_by_amendment old new id replaced bound leaves (amended_known old replaced bound free) kept) dead
unlive_by_change {old} {new} (Withdraw gone) id {opening} {current} {possible} leaves free kept dead sound =
    subst (λ (source : PlanSource). IsSoundReplica source new.state opening current possible) (sym leaves.source)
    (subst (λ (state : Content). IsSoundReplica old.source state opening current possible) (sym leaves.state) (sound_dead gone sound kept))
unlive_by_change {old} {new} (Done event time) id leaves free kept dead sound = never (grown_by_addition leaves) dead

-- and a change that brings nothing new is about no live record
pub never_live : (asked : Change) (state : Content) (next : SiteCounter) → IsAgain asked state → (stops_live asked state ≡ false) × (is_live state (change_id asked next) ≡ false)
never_live asked state next again = search (rules, withdrawn_replaced)

-- the matrix has taken the bound of the record of an id
pub record TookOne (state : Content) (id : SiteCounter) (current next : Table) (possible result : Bool) : Type 0 where
  pub settled : (one : Record) → get state.additions id ≡ Some one → (bounds : List Difference) → IsSettled bounds current possible → IsSettled (bounds ++ one.bound ∷ []) next result
  pub events : next.events ≡ current.events
  pub counted : next.steps ≤ 18446744073709551615

-- the matrix has taken the bounds of all live records anew
pub record TookAll (state : Content) (opening current next : Table) (result : Bool) : Type 0 where
  pub settled : (bounds : List Difference) → IsExact bounds opening → IsSettled (bounds ++ live_bounds state) next result
  pub events : next.events ≡ current.events
  pub counted : next.steps ≤ 18446744073709551615

-- so the replica is sound again
module _ (old new : Held) (opening current next : Table) (possible result : Bool) (state : Content) (sound : IsSoundReplica old.source old.state opening current possible)
    (same : new.source ≡ old.source) (named : RecordsName (events_of new.source) new.state) (is : state ≡ new.state) where
  named_before : RecordsName (events_of old.source) new.state
  named_before = search rules

  pub sound_with_one : {id : SiteCounter} {r : Record} → IsGrown old.state new.state id r → TookOne state id current next possible result → IsSoundReplica new.source new.state opening next result
  sound_with_one {id} {r} more took =
      subst (λ source. IsSoundReplica source new.state opening next result) (sym same)
      (sound_added sound more named_before
      (took.settled r (ap (λ (s : Content). get s.additions id) is ∙ more.there)) took.events took.counted)

  pub sound_anew : TookAll state opening current next result → IsSoundReplica new.source new.state opening next result
  sound_anew took = search rules
