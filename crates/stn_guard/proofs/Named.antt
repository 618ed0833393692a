-- Windows that are kept, one by one.
use Rattle.std.{proofs.{Common.{rules, ◌≡◌, inl, inr, ℕ, ◌+◌, ◌-◌, ◌≤◌, ℤ, pos, Bool, cond, eqb, List, ◌++◌, refl, sym, subst, ap, ◌∙◌, arith}, lemmas.{Int.ints, Bool.{cases_eq, eq-eqb, ne_eqb}, List.FromFn.filter_of_map_range_with_len_more}}, specs.Prelude.◌≤ℤ◌}
use Rattle.stn_net.specs.{Difference.Difference, Schedule.HasSchedule, Windows.Window.{IsInWindow, IsWindow}}
use Rattle.stn_guard.{specs.{Making.window_bound, Splitting.{is_kept, kept, windows_of}}, proofs.Ranges.same_in_range}

-- the windows of one event more
windows_more : (named : List Bool) (ends : ℕ → ℤ × ℤ) (before : ℕ) → windows_of named ends (before + 1) ≡ windows_of named ends before ++ kept named (window_bound (before + 1) (ends (before + 1)))
windows_more named ends before = filter_of_map_range_with_len_more (is_kept named) (λ event. window_bound event (ends event)) 1 before (before + 1) (omega arith)

-- they depend on the ends of their events alone
windows_same : (named : List Bool) {one other : ℕ → ℤ × ℤ} {events : ℕ} → ((event : ℕ) → event ≤ events → one event ≡ other event) → windows_of named one events ≡ windows_of named other events
windows_same named same = search (rules, same_in_range)

-- the windows of the first events, in these bounds
pub record AreNamedTo (bounds : List Difference) (named : List Bool) (before : ℕ) (found : List Difference) : Type 0 where
  pub ends : ℕ → ℤ × ℤ
  pub true_ends : (event : ℕ) → event ≤ before → IsWindow bounds event (ends event).0 (ends event).1
  pub found_are : found ≡ windows_of named ends before

-- the origin stands at 0
pub origin_alone : {bounds : List Difference} {named : List Bool} {found : List Difference} → HasSchedule bounds → found ≡ windows_of named (λ _. (pos 0, pos 0)) 0 → AreNamedTo bounds named 0 found
origin_alone {bounds} possible none = record {
  ends = λ _. (pos 0, pos 0);
  true_ends = λ event most. subst (λ e. IsWindow bounds e (pos 0) (pos 0)) (omega arith) at_origin;
  found_are = none;
}
  where
    at_origin : IsWindow bounds 0 (pos 0) (pos 0)
    at_origin time = (
      (λ (taken : IsInWindow bounds 0 time). let origin = taken.1.origin in let at = taken.2 in (omega (arith, ints), omega (arith, ints))),
      (λ (between : (pos 0 ≤ℤ time) × (time ≤ℤ pos 0)). (possible.0, possible.1, (let origin = possible.1.origin in let low = between.0 in let high = between.1 in omega (arith, ints)))),
    )

-- one event more
pub named_more : {bounds : List Difference} {named : List Bool} {before : ℕ} {window : Difference} {old new : List Difference} → AreNamedTo bounds named before old
    → (ends : ℤ × ℤ) × IsWindow bounds (before + 1) ends.0 ends.1 × (window ≡ window_bound (before + 1) ends) → new ≡ old ++ kept named window → AreNamedTo bounds named (before + 1) new
named_more {bounds} {named} {before} {window} so_far (ends, is, window_is) more =
    let last : cond (eqb (before + 1) (before + 1)) ends (so_far.ends (before + 1)) ≡ ends = at_last (before + 1) (before + 1) refl in
    record {
      ends = λ event. cond (eqb event (before + 1)) ends (so_far.ends event);
      true_ends = λ event most. elim (cases_eq event (before + 1)) [
        | inl same ↦ subst (λ (e : ℤ × ℤ). IsWindow bounds event e.0 e.1) (sym (at_last event (before + 1) same)) (subst (λ x. IsWindow bounds x ends.0 ends.1) (sym same) is)
        | inr apart ↦ subst (λ (e : ℤ × ℤ). IsWindow bounds event e.0 e.1) (sym (at_others event (omega arith))) (so_far.true_ends event (omega arith))
      ];
      found_are = more ∙ ap (λ front. front ++ kept named window) (so_far.found_are ∙ windows_same named (λ event most. sym (at_others event most)))
          ∙ ap (λ w. windows_of named (λ event. cond (eqb event (before + 1)) ends (so_far.ends event)) before ++ kept named w) (window_is ∙ ap (window_bound (before + 1)) (sym last))
          ∙ sym (windows_more named (λ event. cond (eqb event (before + 1)) ends (so_far.ends event)) before);
    }
  where
    at_last : (event number : ℕ) → event ≡ number → cond (eqb event number) ends (so_far.ends event) ≡ ends
    at_last event number same = ap (λ t. cond t ends (so_far.ends event)) (eq-eqb event number same)

    at_others : (event : ℕ) → event ≤ before → cond (eqb event (before + 1)) ends (so_far.ends event) ≡ so_far.ends event
    at_others event most = ap (λ t. cond t ends (so_far.ends event)) (ne_eqb event (before + 1) (λ same. omega (arith, same)))
