-- That a replica stays sound, and what its work is.
use Rattle.std.proofs.{Common.{rules, ◌≡◌, ◌+◌, ◌≤◌, Bool, true, false, List, [], ◌∷◌, ◌++◌, sym, subst, ◌∙◌, arith, All}, lemmas.List.Elements.All-append}
use Rattle.stn_net.specs.{Difference.{Difference, NamesEvents}, Schedule.HasSchedule, Matrix.{Table.Table, Tightest.IsExact}}
use Rattle.stn_lift.specs.PlanSource.{PlanSource, base_bounds, events_of}
use Rattle.stn_records.specs.{Id.SiteCounter, declared.record.Record.Record, Content.{Content, is_live, with_tombstone}}
use Rattle.stn_site.{specs.{Bounds.{all_bounds, live_bounds, bounds_of, RecordsName}, Held.Held, Growth.{Extends, risen, KeepsLive}}, proofs.{Named.live_named, Changes.{IsGrown, one_risen, same_live}, Live.conflict_stays}}
use Rattle.stn_replica.{specs.{Invariant.{IsSettled, IsSoundReplica}, Work.SparesWork}, proofs.Settled.{settled_added, settled_alike, settled_grown}}

-- the table is exact where the bounds have a schedule
pub settled_exact : {bounds : List Difference} {table : Table} {possible : Bool} → possible ≡ true → IsSettled bounds table possible → IsExact bounds table
settled_exact t settled = search rules

pub settled_conflict : {bounds : List Difference} (table : Table) {possible : Bool} → possible ≡ false → IsSettled bounds table possible → ¬ HasSchedule bounds
settled_conflict table t settled = search rules

-- all bounds name the table's events
pub all_named : (source : PlanSource) (state : Content) {opening : Table} (table : Table) → IsExact (base_bounds source) opening → opening.events ≡ events_of source → table.events ≡ events_of source
    → RecordsName (events_of source) state → All (NamesEvents table.events) (all_bounds source state)
all_named source state table exact opens events named =
    subst (λ n. All (NamesEvents n) (all_bounds source state)) (sym events)
    (All-append (NamesEvents (events_of source)) (base_bounds source) (live_bounds state)
    (subst (λ n. All (NamesEvents n) (base_bounds source)) opens exact.named)
    (live_named (events_of source) state named))

-- where the new matrix is settled, the replica stays sound
sound_again : {source : PlanSource} {state new : Content} {opening current next : Table} {possible result : Bool}
    → IsSoundReplica source state opening current possible → RecordsName (events_of source) new → next.events ≡ current.events → next.steps ≤ 18446744073709551615
    → (All (NamesEvents next.events) (all_bounds source new) → IsSettled (all_bounds source new) next result)
    → IsSoundReplica source new opening next result
sound_again {source} {new} {opening} {next} p named events counted settled = record {
  named = named;
  opening_events = p.opening_events;
  current_events = events ∙ p.current_events;
  opening_exact = p.opening_exact;
  settled = settled (all_named source new next p.opening_exact p.opening_events (events ∙ p.current_events) named);
  counted = counted;
}

-- ---- additions and amendments
pub sound_added : {source : PlanSource} {state new : Content} {opening current next : Table} {possible result : Bool} {id : SiteCounter} {r : Record}
    → IsSoundReplica source state opening current possible → IsGrown state new id r → RecordsName (events_of source) new
    → ((bounds : List Difference) → IsSettled bounds current possible → IsSettled (bounds ++ r.bound ∷ []) next result)
    → next.events ≡ current.events → next.steps ≤ 18446744073709551615
    → IsSoundReplica source new opening next result
sound_added p more named settled events counted = search (rules, sound_again, settled_added)

pub spares_added : (old new : Held) {before after : Content} {id : SiteCounter} {r : Record} → IsGrown before after id r
    → old.state ≡ before → new.state ≡ after → old.steps ≤ new.steps → new.steps ≤ old.steps + 1 → SparesWork old new
spares_added old new more was is least most = search (rules, one_risen)

-- where a live record has stopped being live, nothing is said of the work
pub spares_fallen : (old new : Held) {before after : Content} → ¬ KeepsLive before after → old.state ≡ before → new.state ≡ after → SparesWork old new
spares_fallen old new falls was is = search rules

-- after a rebuild
pub sound_rebuilt : {source : PlanSource} {state new : Content} {opening current next : Table} {possible result : Bool}
    → IsSoundReplica source state opening current possible → RecordsName (events_of source) new
    → ((bounds : List Difference) → IsExact bounds opening → IsSettled (bounds ++ live_bounds new) next result)
    → next.events ≡ current.events → next.steps ≤ 18446744073709551615
    → IsSoundReplica source new opening next result
sound_rebuilt p named settled events counted = search rules

-- after a take by which no live record stops being live
pub sound_taken : {source : PlanSource} {state new : Content} {opening current next : Table} {possible result : Bool}
    → IsSoundReplica source state opening current possible → possible ≡ true → KeepsLive state new → Extends state new → RecordsName (events_of source) new
    → ((bounds : List Difference) → IsExact bounds current → IsSettled (bounds ++ bounds_of (risen state new)) next result)
    → next.events ≡ current.events → next.steps ≤ 18446744073709551615
    → IsSoundReplica source new opening next result
sound_taken p t keeps more named settled events counted = search (rules, sound_again, settled_grown, settled_exact)

pub sound_taken_in_conflict : {source : PlanSource} {state new : Content} {opening current : Table} {possible : Bool}
    → IsSoundReplica source state opening current possible → possible ≡ false → KeepsLive state new → Extends state new → RecordsName (events_of source) new
    → IsSoundReplica source new opening current false
sound_taken_in_conflict p t keeps more named = search (rules, conflict_stays, settled_conflict)

-- after a withdrawal of a record that was not live
pub sound_dead : {source : PlanSource} {state : Content} {opening current : Table} {possible : Bool} (id : SiteCounter) → IsSoundReplica source state opening current possible
    → is_live state id ≡ false → IsSoundReplica source (with_tombstone state id) opening current possible
sound_dead id p dead = search (rules, sound_again, settled_alike, same_live)

-- where the steps are the same
pub spares_same : (old new : Held) → new.steps ≡ old.steps → SparesWork old new
spares_same old new same = λ _ _. (omega arith, omega arith)
