-- The matrix of the plan's own bounds.
use Rattle.std.{proofs.{lemmas.{Grind.common_steps, List.{take_more, take_all, take-append-drop, Sorted.{All-permutation, IsPermutation-sym, IsPermutation-append_right}}}, Common.{rules, ◌≡◌, ℕ, ◌+◌, ◌-◌, ◌<◌, ◌≤◌, ◌↔◌, Bool, IsTrue, List, [], ◌∷◌, ◌++◌, length, take, drop, get_or, sym, subst, ◌∙◌, arith, length-drop, append_assoc}}, specs.{Prelude.All, List.Sorted.IsPermutation}}
use Rattle.stn_net.{specs.{Difference.{Difference, NamesEvents}, Horizon.horizon_bounds, Schedule.{HasSchedule, IsSchedule}, Matrix.{Table.Table, Tightest.IsExact}}, proofs.{Closure.schedule_before, Schedules.{schedule_permuted, exact_permuted}}}
use Rattle.stn_lift.specs.PlanSource.{PlanSource, base_bounds, events_of, planned_of, IsSoundSource}

-- the bounds after those of the horizon name the events of the plan
pub rest_named : {source : PlanSource} → IsSoundSource source → All (NamesEvents (events_of source)) (drop (events_of source) (base_bounds source))
rest_named sound = grind (arith, common_steps)

-- these are the bounds beside the horizon, in some order
abbrev pub AreOthers : PlanSource → List Difference → Type 0
AreOthers source others = IsPermutation (drop (events_of source) (base_bounds source)) others

-- a slice of the bounds from that place on
pub slice_is : {all base : List Difference} {from first : ℕ} → all ≡ base → from ≡ first → drop first base ≡ take (length all - from) (drop from all)
slice_is same here = search (rules, take_all, length-drop)

pub others_are : (source : PlanSource) {all : List Difference} {from : ℕ} {found items : List Difference} → all ≡ base_bounds source → from ≡ events_of source → items ≡ found
    → IsPermutation (take (length all - from) (drop from all)) found → AreOthers source items
others_are source same here is moved = search (rules, slice_is)

-- each of the others names events of the plan
pub other_named : {source : PlanSource} {others : List Difference} {count : ℕ} {bound : Difference} (table : Table) → IsSoundSource source → AreOthers source others
    → count < length others → bound ≡ get_or others count bound → table.events ≡ events_of source → NamesEvents table.events bound
other_named {source} {others} table sound moved within here events =
    let named = All-permutation (NamesEvents (events_of source)) (drop (events_of source) (base_bounds source)) others moved (rest_named sound) in
    search rules

-- the horizon bounds and the others are all, in some order
all_permuted : {source : PlanSource} {others : List Difference} → IsSoundSource source → AreOthers source others → IsPermutation (base_bounds source) (horizon_bounds (events_of source) ++ others)
all_permuted {source} {others} sound moved =
    let n : ℕ = events_of source in
    let parts : horizon_bounds n ++ drop n (base_bounds source) ≡ base_bounds source = cc (take-append-drop n (base_bounds source)) in
    subst (λ all. IsPermutation all (horizon_bounds n ++ others)) parts (IsPermutation-append_right (horizon_bounds n) (drop n (base_bounds source)) others moved)

-- the matrix has taken the first of the others
pub record IsOpenedTo (source : PlanSource) (others : List Difference) (count : ℕ) (table : Table) : Type 0 where
  pub exact : IsExact (horizon_bounds (events_of source) ++ take count others) table
  pub events : table.events ≡ events_of source

pub opened : {source : PlanSource} {others : List Difference} {table : Table} → IsExact (horizon_bounds (events_of source)) table → table.events ≡ events_of source → IsOpenedTo source others 0 table
opened exact events = search rules

-- the planned times are a schedule of the first bounds too
first_possible : {source : PlanSource} {others : List Difference} → IsSoundSource source → AreOthers source others → (count : ℕ) → HasSchedule (horizon_bounds (events_of source) ++ take count others)
first_possible {source} {others} sound moved count =
    let front : List Difference = horizon_bounds (events_of source) in
    let whole : (front ++ take count others) ++ drop count others ≡ front ++ others = search (rules, append_assoc, take-append-drop) in (
      planned_of source,
      schedule_before (front ++ take count others) (drop count others) (planned_of source)
          (subst (λ all. IsSchedule all (planned_of source)) (sym whole)
          (schedule_permuted (base_bounds source) (front ++ others) (all_permuted sound moved) (planned_of source) sound.possible)),
    )

-- one bound more
pub opened_more : {source : PlanSource} {others : List Difference} → IsSoundSource source → AreOthers source others
    → {count : ℕ} {bound : Difference} {old new : Table} (fits : Bool)
    → count < length others → bound ≡ get_or others count bound → IsOpenedTo source others count old
    → ((bounds : List Difference) → IsExact bounds old → (IsTrue fits ↔ HasSchedule (bounds ++ bound ∷ [])))
    → ((bounds : List Difference) → IsExact bounds old → IsTrue fits → IsExact (bounds ++ bound ∷ []) new)
    → new.events ≡ old.events → IsOpenedTo source others (count + 1) new
opened_more {source} {others} sound moved {count} {bound} {new} fits within here opened possible exact events =
    let front : List Difference = horizon_bounds (events_of source) in
    let more : front ++ take (count + 1) others ≡ (front ++ take count others) ++ bound ∷ [] = search (rules, take_more, append_assoc)
    in
    let does_fit : IsTrue fits = (possible (front ++ take count others) opened.exact).1 (subst HasSchedule more (first_possible sound moved (count + 1))) in
    record {
      exact = subst (λ all. IsExact all new) (sym more) (exact (front ++ take count others) opened.exact does_fit);
      events = events ∙ opened.events;
    }

-- after the last, all bounds are taken
pub all_opened : {source : PlanSource} {others : List Difference} {count : ℕ} {table : Table} → IsSoundSource source → AreOthers source others
    → length others ≤ count → IsOpenedTo source others count table → IsExact (base_bounds source) table
all_opened sound moved last opened = search (rules, exact_permuted, IsPermutation-sym, all_permuted, take_all)
