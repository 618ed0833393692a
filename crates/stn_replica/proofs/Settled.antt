-- What is settled of bounds depends on their schedules alone, and how it changes with the live records of a state.
use Rattle.std.{proofs.{Common.{rules, ◌≡◌, ℕ, ℤ, Bool, true, false, ◌↔◌, List, [], ◌∷◌, ◌++◌, All, IsTrue, sym, ap, ◌∙◌, arith}, lemmas.List.Elements.{All-nil, All-push}}, specs.FinMap.get}
use Rattle.stn_net.{specs.{Difference.{Difference, NamesEvents}, Schedule.{IsSchedule, HasSchedule, Meets}, Matrix.{Table.Table, Tightest.IsExact}}, proofs.{Closure.schedule_before, Schedules.{met_behind, schedule_with}, Tightest.exact_same_schedules}}
use Rattle.stn_records.specs.{Id.SiteCounter, declared.record.Record.Record, Content.{Content, is_live}}
use Rattle.stn_site.{specs.{Bounds.{bounds_of, live_bounds}, Growth.{risen, Extends, KeepsLive}}, proofs.{Live.{live_from_bounds, bounds_from_live, risen_from_bounds, bounds_from_risen, old_hold, risen_hold, new_hold}, Changes.{IsGrown, added_hold, hold_added}}}
use Rattle.stn_replica.specs.Invariant.{IsSettled}

-- what is settled of bounds is settled of others with the same schedules
pub settled_same_schedules : {these those : List Difference} (table : Table) (possible : Bool)
    → ((time : ℕ → ℤ) → IsSchedule these time → IsSchedule those time)
    → ((time : ℕ → ℤ) → IsSchedule those time → IsSchedule these time)
    → All (NamesEvents table.events) those
    → IsSettled these table possible → IsSettled those table possible
settled_same_schedules table true forth back named settled = search (rules, exact_same_schedules)
settled_same_schedules table false forth back named settled = λ s. settled (s.0, back s.0 s.1)

-- what `tighten` answers settles the bounds with the bound
pub settled_tightened : (bounds : List Difference) (bound : Difference) {table : Table} {result : Bool}
    → (IsTrue result ↔ HasSchedule (bounds ++ bound ∷ []))
    → (IsTrue result → IsExact (bounds ++ bound ∷ []) table)
    → IsSettled (bounds ++ bound ∷ []) table result
settled_tightened bounds bound possible exact = search rules

-- what is settled with the bounds of those that have become live is settled of all
pub settled_grown : (base : List Difference) (old new : Content) (table : Table) (possible : Bool)
    → Extends old new → KeepsLive old new
    → All (NamesEvents table.events) (base ++ live_bounds new)
    → IsSettled ((base ++ live_bounds old) ++ bounds_of (risen old new)) table possible
    → IsSettled (base ++ live_bounds new) table possible
settled_grown base old new table possible extends keeps named settled =
    settled_same_schedules table possible
    (λ time s.
    let before = schedule_before (base ++ live_bounds old) (bounds_of (risen old new)) time s in
    schedule_with base (live_bounds new) time (schedule_before base (live_bounds old) time before)
    (bounds_from_live (Meets time) new (new_hold (Meets time) old new extends keeps
    (live_from_bounds (Meets time) old (met_behind base (live_bounds old) time before))
    (risen_from_bounds (Meets time) old new (met_behind (base ++ live_bounds old) (bounds_of (risen old new)) time s)))))
    (λ time s.
    let all = live_from_bounds (Meets time) new (met_behind base (live_bounds new) time s) in
    schedule_with (base ++ live_bounds old) (bounds_of (risen old new)) time
    (schedule_with base (live_bounds old) time (schedule_before base (live_bounds new) time s) (bounds_from_live (Meets time) old (old_hold (Meets time) old new extends keeps all)))
    (bounds_from_risen (Meets time) old new (risen_hold (Meets time) old new extends keeps all)))
    named settled

-- where the same records are live, the same is settled
pub settled_alike : (base : List Difference) (old new : Content) (table : Table) (possible : Bool)
    → new.additions ≡ old.additions → ((id : SiteCounter) → is_live new id ≡ is_live old id)
    → All (NamesEvents table.events) (base ++ live_bounds new)
    → IsSettled (base ++ live_bounds old) table possible → IsSettled (base ++ live_bounds new) table possible
settled_alike base old new table possible added live named settled =
    settled_same_schedules table possible
    (λ time s.
    let all = live_from_bounds (Meets time) old (met_behind base (live_bounds old) time s) in
    schedule_with base (live_bounds new) time (schedule_before base (live_bounds old) time s)
    (bounds_from_live (Meets time) new (λ id r there now. all id r (ap (λ m. get m id) (sym added) ∙ there) (sym (live id) ∙ now))))
    (λ time s.
    let all = live_from_bounds (Meets time) new (met_behind base (live_bounds new) time s) in
    schedule_with base (live_bounds old) time (schedule_before base (live_bounds new) time s)
    (bounds_from_live (Meets time) old (λ id r there now. all id r (ap (λ m. get m id) added ∙ there) (live id ∙ now))))
    named settled

-- what is settled with the bound is settled of all bounds
pub settled_added : {s new : Content} {id : SiteCounter} {r : Record} (g : IsGrown s new id r) (base : List Difference) (table : Table) (possible : Bool)
    → All (NamesEvents table.events) (base ++ live_bounds new)
    → IsSettled ((base ++ live_bounds s) ++ r.bound ∷ []) table possible → IsSettled (base ++ live_bounds new) table possible
settled_added {s} {new} {id} {r} g base table possible named settled =
    settled_same_schedules table possible
    (λ time h.
    let before = schedule_before (base ++ live_bounds s) (r.bound ∷ []) time h in
    schedule_with base (live_bounds new) time (schedule_before base (live_bounds s) time before)
    (bounds_from_live (Meets time) new (new_hold (Meets time) s new g.extends g.keeps
    (live_from_bounds (Meets time) s (met_behind base (live_bounds s) time before))
    (hold_added s new id r g (Meets time) (met_behind (base ++ live_bounds s) (r.bound ∷ []) time h 0 r.bound (omega arith))))))
    (λ time h.
    let all = live_from_bounds (Meets time) new (met_behind base (live_bounds new) time h) in
    schedule_with (base ++ live_bounds s) (r.bound ∷ []) time
    (schedule_with base (live_bounds s) time (schedule_before base (live_bounds new) time h) (bounds_from_live (Meets time) s (old_hold (Meets time) s new g.extends g.keeps all)))
    (All-push (Meets time) [] r.bound (All-nil (Meets time)) (added_hold s new id r g (Meets time) (risen_hold (Meets time) s new g.extends g.keeps all))))
    named settled
