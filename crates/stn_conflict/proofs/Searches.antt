-- How a search goes on.
use Rattle.std.{proofs.{Common.{rules, ◌≡◌, ℕ, ◌+◌, ◌≤◌, Bool, List, Result, Ok, Err, length, replicate, refl, sym, ap, ◌∙◌, arith}, lemmas.{Grind.common_steps, Bool.false≢true, List.length-replicate}}, specs.Prelude.{ℤ, Vec, OnOk, is_ok, is_err, true}}
use Rattle.stn_net.specs.{Difference.Difference, Schedule.{HasSchedule, times_of}}
use Rattle.stn_conflict.{specs.{declared.relaxation.Search.Search, Relaxation.{AreDistances, AreRelaxed, HasTables, IsBegun, IsFloor, IsNetwork, IsPending, IsSearch, Lowers, Searched}}, proofs.Relaxing.{all_fresh, among_events, distances_relaxed, floor_of, settled}}

module _ {A : Type 0} where
  -- of as many events as it has estimates
  pub tables_of : {count : ℕ} (search : Search A) → HasTables count search → HasTables (length search.far.items) search
  tables_of search h = rw h.far h

  -- a search has begun
  pub begun_of : {searched : Searched} {search : Search A} → IsNetwork searched.events searched.bounds → searched.events ≤ searched.whole → IsSearch searched.bounds search.start (searched.events + 1) search
      → IsBegun searched search
  begun_of network kept h = grind (arith)

  module _ (searched : Searched) (old new : Search A) (was : IsSearch searched.bounds old.start (searched.events + 1) old) (begun : IsBegun searched new) (start : new.start ≡ old.start)
      (lowers : Lowers searched.bounds old.start old.far.items new.far.items) where
    abbrev bounds : List Difference
    bounds = searched.bounds

    -- and is one still after its estimates were lowered
    pub still_search : IsSearch bounds old.start (searched.events + 1) new
    still_search = record {
      tables = begun.tables;
      from = start;
      estimates = record {
        named = rw begun.tables.far begun.named;
        start_named = omega (arith, was.estimates.start_named, lowers.long);
        own = ap (times_of new.far.items) (sym start) ∙ begun.own;
        sound = λ time s. (lowers.floors _ (floor_of was.estimates s)).below;
        least = λ time s. (lowers.floors _ (floor_of was.estimates s)).within;
      };
    }

    module _ {T E : Type 0} (result : Result T E) (refused : is_err result ≡ true → (low : ℕ → ℤ) → ¬ IsFloor bounds old.start old.far.items low)
        (met : OnOk result (AreRelaxed bounds (times_of new.far.items))) where
      -- its estimates are the distances, or no schedule is left
      pub found_all : is_ok result ≡ true → HasSchedule bounds × AreDistances bounds old.start new.far.items
      found_all told = settled still_search.estimates (from_ok result (AreRelaxed bounds (times_of new.far.items)) told met)
        where
          from_ok : {T E : Type 0} (r : Result T E) (P : Type 0) → is_ok r ≡ true → OnOk r P → P
          from_ok (Ok x) P t h = h
          from_ok (Err e) P t h = absurd (false≢true t)

      pub found_none : HasSchedule bounds → is_ok result ≡ true
      found_none (time, s) = unless result (λ none. refused none _ (floor_of was.estimates s))
        where
          unless : {T E : Type 0} (r : Result T E) → (is_err r ≡ true → ⊥) → is_ok r ≡ true
          unless (Ok x) not = refl
          unless (Err e) not = absurd (not refl)

  module _ (events : ℕ) (bounds : List Difference) (search : Search A) (late : IsSearch bounds 0 (events + 1) search) where
    -- where it has found the distances, no link is left
    pub pending_none : AreDistances bounds 0 search.far.items → IsPending events bounds search
    pending_none exact = record { late = late; relaxed = λ link there listed stale. distances_relaxed exact link there }

    -- where all estimates are fresh, any may be
    pub pending_all : {fresh : Vec Bool A} → IsNetwork events bounds → fresh.items ≡ replicate (events + 1) true → IsPending events bounds (record search { fresh = fresh })
    pending_all network is = grind (arith, common_steps, length-replicate, all_fresh, among_events)

-- what is so unless it was refused
pub unrefused : {T E : Type 0} (r : Result T E) (P : Type 0) → (is_err r ≡ true → ⊥) → OnOk r P → P
unrefused r P not h = search rules
