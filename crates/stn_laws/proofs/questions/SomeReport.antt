-- Each plan and each state have a report.
use Rattle.std.{proofs.{Common.{rules, ◌⊎◌, inl, inr, ℕ, zero, suc, ◌≤◌, Bool, List, [], ◌++◌, codes, neg_ℤ, refl, arith}, lemmas.List.Elements.All-append}, specs.{Prelude.{ℤ, All}, List.flat_map}}
use Rattle.stn_net.specs.Difference.{Difference, IsBoundWithin}
use Rattle.stn_lift.specs.PlanSource.{PlanSource, events_of, base_bounds, IsSoundSource}
use Rattle.stn_records.specs.Content.{Content}
use Rattle.stn_conflict.{specs.Arcs.weight_of, proofs.Known.{known_within, known_first}}
use Rattle.stn_site.specs.{Bounds.{all_bounds, live_bounds}, Names.live_ids, Lines.{line, window_line, conflict_line, link_line}, Report.{is_done, heading, IsWindowLines, IsConflictPart, IsReport}}
use Rattle.stn_laws.proofs.questions.{Found.{AreFound, IsFirstRefused, IsInOrder, possible_found, window_found, found_or_refused}, Cycles.some_cycle}

-- a window for each of the first events
some_windows : {bounds : List Difference} {events : ℕ} {far : ℕ → ℕ → ℤ} (done : ℕ → Bool) → AreFound bounds events far → (n : ℕ) → n ≤ events
    → (text : List ℕ) × IsWindowLines bounds done n text
some_windows done found zero within = ([], refl)
some_windows {far = far} done found (suc n) within =
    let (before, lines) = some_windows done found n (omega arith) in (
      before ++ window_line (suc n) (neg_ℤ (far (suc n) 0)) (far 0 (suc n)) (done (suc n)),
      (before, neg_ℤ (far (suc n) 0), far 0 (suc n), lines, window_found found (suc n) within, refl),
    )

-- the plan has a base, and each bound of a live record is one of the plan
pub record IsSoundState (source : PlanSource) (state : Content) : Type 0 where
  pub based : IsSoundSource source
  pub live : All (IsBoundWithin (events_of source)) (live_bounds state)

pub sound_state : (source : PlanSource) (state : Content) → IsSoundSource source → All (IsBoundWithin (events_of source)) (live_bounds state) → IsSoundState source state
sound_state source state based live = record { based = based; live = live }

module _ {source : PlanSource} {state : Content} (sound : IsSoundState source state) where
  -- the plan's own bounds have a schedule, so none of them is crossed
  base_in_order : All (IsInOrder (events_of source)) (base_bounds source)
  base_in_order = search rules

  in_order : All (IsInOrder (events_of source)) (all_bounds source state)
  in_order =
      All-append (IsInOrder (events_of source)) (base_bounds source) (live_bounds state) base_in_order
      (λ k d below. let one = sound.live k d below in record { named = one.named; ordered = one.ordered })

  -- there are the tightest differences, or the first bound that is refused
  pub differences : ((far : ℕ → ℕ → ℤ) × AreFound (all_bounds source state) (events_of source) far)
      ⊎ ((place : ℕ) × (far : ℕ → ℕ → ℤ) × IsFirstRefused (all_bounds source state) (events_of source) place far)
  differences =
      let begins = known_first (events_of source) (base_bounds source) (live_bounds state) sound.based.horizon in
      search (rules, found_or_refused, known_within, in_order)

  -- the conflict, where some bound is refused
  pub some_conflict : {place : ℕ} {far : ℕ → ℕ → ℤ} → IsFirstRefused (all_bounds source state) (events_of source) place far → (text : List ℕ) × IsConflictPart source state text
  some_conflict first =
      let (links, named, negative) = some_cycle first in_order in (
        conflict_line (weight_of (all_bounds source state) links) ++ flat_map (link_line (base_bounds source) (live_ids state) (live_bounds state)) links,
        record { links = links; named = named; negative = negative; whole = refl },
      )

  pub some_report : (text : List ℕ) × IsReport source state text
  some_report =
      elim differences [
        | inl (far, found) ↦
            let (lines, windows) = some_windows (is_done state) found (events_of source) (omega arith) in (
              heading source state ++ (line (codes "ok") ++ lines),
              record {
                rest = line (codes "ok") ++ lines;
                part = inl (record { possible = possible_found found; lines = lines; windows = windows; whole = refl });
                whole = refl;
              },
            )
        | inr (place, far, first) ↦
            let (text, conflict) = some_conflict first in
            (heading source state ++ text, record { rest = text; part = inr conflict; whole = refl })
      ]
