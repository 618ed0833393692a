-- A plan and a state have one picture.
use Rattle.std.{proofs.{Common.{◌≡◌, ℕ, ℤ, pos, ◌≤◌, List, ◌++◌, sym, ap, ◌∙◌, ⊎_elim, arith}, lemmas.List.ext_get_or}, specs.Prelude.{Option, None}}
use Rattle.stn_net.{specs.{Difference.Difference, Schedule.HasSchedule}, proofs.{WindowEnds.one_window, Closure.schedule_before}}
use Rattle.stn_lift.specs.PlanSource.{PlanSource, base_bounds, events_of}
use Rattle.stn_records.specs.Content.{Content, live_of}
use Rattle.stn_conflict.specs.{declared.links.Link.Link, Arcs.IsNegativeCycle, Named.IsNamedCycle}
use Rattle.stn_site.specs.{Bounds.{all_bounds, live_bounds}, Names.live_ids, Windows.{window_at, AreWindows}}
use Rattle.stn_repairs.proofs.OneRepairs.{one_list}
use Rattle.stn_chart.specs.{Chart.{Look, floors, overdue_event, AreDrawn, chart_of}, Frame.plan_text, Drawn.IsPlanPicture}
use Rattle.stn_walk.specs.{Walk.{walk_of, walk_text}, Conflict.IsWalkPicture}
use Rattle.stn_picture.specs.Picture.{IsPicture}

one_windows : (bounds : List Difference) (events : ℕ) (one other : List (ℤ × ℤ)) → AreWindows bounds events one → AreWindows bounds events other → one ≡ other
one_windows bounds events one other p q =
    ext_get_or (pos 0, pos 0) one other (p.one_each ∙ sym q.one_each)
    (λ i within.
    let event : i ≤ events = omega (arith, within, p.one_each) in
    let ends = one_window bounds i (window_at one i).0 (window_at one i).1 (window_at other i).0 (window_at other i).1 p.possible (p.each i event) (q.each i event) in
    λ k. (ends.0 k, ends.1 k))

module _ (source : PlanSource) (state : Content) (now : Option ℤ) where
  abbrev all : List Difference
  all = all_bounds source state

  abbrev waiting : List Difference
  waiting = all ++ floors state (events_of source) now

  one_drawn : (one other : List (ℤ × ℤ)) (late past : Option ℕ) → AreDrawn source state now one late → AreDrawn source state now other past → (one ≡ other) × (late ≡ past)
  one_drawn one other late past p q = ⊎_elim
      (λ (mine : AreWindows waiting (events_of source) one × (late ≡ None)). ⊎_elim
      (λ (theirs : AreWindows waiting (events_of source) other × (past ≡ None)). (one_windows waiting (events_of source) one other mine.0 theirs.0, mine.1 ∙ sym theirs.1))
      (λ (theirs : (¬ HasSchedule waiting) × AreWindows all (events_of source) other × (past ≡ overdue_event state other (events_of source) now)). absurd (theirs.0 mine.0.possible))
      q)
      (λ (mine : (¬ HasSchedule waiting) × AreWindows all (events_of source) one × (late ≡ overdue_event state one (events_of source) now)). ⊎_elim
      (λ (theirs : AreWindows waiting (events_of source) other × (past ≡ None)). absurd (mine.0 theirs.0.possible))
      (λ (theirs : (¬ HasSchedule waiting) × AreWindows all (events_of source) other × (past ≡ overdue_event state other (events_of source) now)).
      let same = one_windows all (events_of source) one other mine.1 theirs.1 in
      (same, mine.2 ∙ ap (λ windows. overdue_event state windows (events_of source) now) same ∙ sym theirs.2))
      q)
      p

  drawn_possible : (windows : List (ℤ × ℤ)) (late : Option ℕ) → AreDrawn source state now windows late → HasSchedule all
  drawn_possible windows late p = ⊎_elim
      (λ (mine : AreWindows waiting (events_of source) windows × (late ≡ None)). (mine.0.possible.0, schedule_before all (floors state (events_of source) now) mine.0.possible.0 mine.0.possible.1))
      (λ (mine : (¬ HasSchedule waiting) × AreWindows all (events_of source) windows × (late ≡ overdue_event state windows (events_of source) now)). mine.1.possible)
      p

abbrev pub OneCycle : Type 0
OneCycle = (bounds : List Difference) → (one other : List Link) → IsNamedCycle bounds one → IsNamedCycle bounds other → one ≡ other

abbrev pub Refutes : Type 0
Refutes = (bounds : List Difference) → (links : List Link) → IsNegativeCycle bounds links → ¬ HasSchedule bounds

-- a plan and a state have one picture, drawn so
pub one_picture : OneCycle → Refutes → (look : Look) (names : List (List ℕ)) (source : PlanSource) (state : Content) (text other : List ℕ)
    → IsPicture look names source state text → IsPicture look names source state other → text ≡ other
one_picture cycles refutes look names source state text other p q = ⊎_elim
    (λ (mine : IsPlanPicture look names source state text). ⊎_elim
    (λ (theirs : IsPlanPicture look names source state other).
    let same = one_drawn source state look.present mine.windows theirs.windows mine.overdue theirs.overdue mine.drawn theirs.drawn in
    mine.whole ∙ (λ i. plan_text (chart_of look names source state (same.0 i) (same.1 i))) ∙ sym theirs.whole)
    (λ (theirs : IsWalkPicture look.title names source state other).
    absurd (refutes (all_bounds source state) theirs.links theirs.negative (drawn_possible source state look.present mine.windows mine.overdue mine.drawn))) q)
    (λ (mine : IsWalkPicture look.title names source state text). ⊎_elim
    (λ (theirs : IsPlanPicture look names source state other).
    absurd (refutes (all_bounds source state) mine.links mine.negative (drawn_possible source state look.present theirs.windows theirs.overdue theirs.drawn)))
    (λ (theirs : IsWalkPicture look.title names source state other).
    let links = cycles (all_bounds source state) mine.links theirs.links mine.named theirs.named in
    let repairs = one_list (base_bounds source) (live_of state) (live_of state) mine.repairs theirs.repairs mine.are theirs.are in
    mine.whole ∙ (λ i. walk_text (walk_of look.title names (base_bounds source) (live_ids state) (live_bounds state) (links i) (repairs i))) ∙ sym theirs.whole) q)
    p
