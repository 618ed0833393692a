-- A way to an event by a link, tried against the event's estimate.
use Rattle.std.{proofs.{Common.{rules, ◌≡◌, ◌⊎◌, ℕ, Bool, false, ◌<◌, List, length, sym, ◌∙◌, arith}, lemmas.Int.ints}, specs.Prelude.{ℤ, pos, ◌+ℤ◌, ◌≤ℤ◌, All}}
use Rattle.stn_net.specs.{Difference.Difference, Schedule.times_of}
use Rattle.stn_conflict.{specs.{declared.outgoing.Look.Look, Relaxation.{AreBegun, AreTables, Freshens, IsFloor, IsKept, IsLook, IsLowered, LeavesNoFloor, IsRelaxedOf, Lowers, NamesAmong, Searched, is_fresh}}, proofs.Lowering.{lowered_at, freshened_at, fallen_other, relaxed_now}}

-- estimates that have begun have so still, if that of the start is kept
pub begun_on : {by new_by : List ℕ} {fresh new_fresh : List Bool} {searched : Searched} {start : ℕ} {far : List ℤ} {new : List ℤ} → AreBegun searched start far by fresh
    → AreTables (length far) new new_by new_fresh → times_of new start ≡ pos 0 → AreBegun searched start new new_by new_fresh
begun_on begun tables own = search rules

module _ (searched : Searched) (start event : ℕ) (here : ℤ) (look : Look) (far : List ℤ) (by : List ℕ) (fresh : List Bool) (new : List ℤ) (new_fresh : List Bool)
    (begun : AreBegun searched start far by fresh) (is : IsLook searched.bounds event look) (most : times_of far event ≤ℤ here)
    (still : is_fresh fresh event ≡ false → times_of far event ≡ here) where
  abbrev bounds : List Difference
  bounds = searched.bounds

  -- what is so then
  pub record Tried : Type 0 where
    pub own : times_of new start ≡ pos 0
    pub lowers : Lowers bounds start far new
    pub freshens : Freshens far fresh new new_fresh
    pub relaxed : IsRelaxedOf bounds new new_fresh look.link

  named : All (NamesAmong (length far)) bounds
  named = rw begun.tables.far begun.named

  there : look.to < length far
  there = search rules

  there_fresh : look.to < length fresh
  there_fresh = omega (arith, there)

  -- what a floor allows
  allowed : (low : ℕ → ℤ) → IsFloor bounds start far low → low look.to ≤ℤ (here +ℤ look.weight)
  allowed low h = search (rules, there, ints)

  tried_kept : IsKept look.to (here +ℤ look.weight) far fresh new new_fresh → Tried
  tried_kept k = search rules

  tried_lowered : IsLowered start look.to (here +ℤ look.weight) far fresh new new_fresh → Tried
  tried_lowered k = rw (k.far_is, k.fresh_is) (record {
    own = fallen_other far look.to (here +ℤ look.weight) there k.less (λ same. k.apart (sym same)) ∙ begun.own;
    lowers = lowered_at far look.to (here +ℤ look.weight) there k.less bounds start allowed;
    freshens = freshened_at far look.to (here +ℤ look.weight) there k.less fresh there_fresh;
    relaxed = relaxed_now far look.to (here +ℤ look.weight) there k.less bounds fresh look.link there_fresh (sym is.to)
        (λ stale. let same = still (rw is.from at stale) in rw (is.from, is.weight) (omega (arith, ints)));
  })

  pub tried : (IsKept look.to (here +ℤ look.weight) far fresh new new_fresh) ⊎ (IsLowered start look.to (here +ℤ look.weight) far fresh new new_fresh) → Tried
  tried h = search (rules, tried_kept, tried_lowered)

  pub tried_refused : LeavesNoFloor start look.to (here +ℤ look.weight) far fresh new new_fresh → {low : ℕ → ℤ} → ¬ IsFloor bounds start far low
  tried_refused k h = search (rules, ints)
