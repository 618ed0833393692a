-- The durations of the steps of a plan, one behind the other.
use Rattle.std.{proofs.{Common.{rules, ◌≡◌, ◌≢◌, ◌⊎◌, inl, inr, ⊎_elim, ℕ, ◌+◌, ◌*◌, ◌<◌, ◌≤◌, ℤ, ◌≤ℤ◌, List, map, length, get_or, refl, sym, ap, subst, ◌∙◌, arith, All}, lemmas.{Int.ints, List.{get_or-map, get_or_default, length-map}}}}
use Rattle.stn_lift.{proofs.FewBounds.{length-duration_bounds, duration_at}, specs.{BaseBounds.duration_bounds, PlanSource.PlanSource}}
use Rattle.stn_net.specs.Difference.{Difference}
use Rattle.stn_loosen.{specs.{Slack.{Slack, loose}, Loosened.loose_durations, Promise.{still, setting_of}, Stepped.AreSteps}, proofs.Settings.{AreApart, setting_holds}}

steps_bounds : (duration : ℕ → ℤ) (steps : ℕ) → AreSteps (duration_bounds duration steps)
steps_bounds duration steps = search (rules, duration_at, length-duration_bounds)

steps_loose : (slack : Slack) (durations : List Difference) → AreSteps durations → AreSteps (map (loose slack) durations)
steps_loose slack durations are = record {
  each = λ place d below.
      let there : place < length durations = rw length-map at below in
      rw (get_or-map (loose slack) durations place d d there) (are.each place d there);
}

-- the durations of a plan are those of its steps
pub source_steps : (slack : Slack) (source : PlanSource) → AreSteps (loose_durations slack source)
source_steps slack source = search (rules, steps_loose, steps_bounds)

module _ (durations : List Difference) (are : AreSteps durations) where
  -- an event is set by itself, or by a duration that begins with the event before it
  abbrev SetBy : ℕ → Difference → Type 0
  SetBy event setting = (setting ≡ still event) ⊎ ((place : ℕ) × (event ≡ 2 * place + 2) × (setting.from ≡ 2 * place + 1))

  set_by : (event : ℕ) → SetBy event (setting_of durations event)
  set_by event = setting_holds (SetBy event) event durations (λ none. inl refl)
      (λ place d below ends. let step = are.each place d below in inr (place, omega (arith, ends, step.1), step.0))

  pub earlier_start : (event : ℕ) → (setting_of durations event).from ≤ event
  earlier_start event = search (rules, set_by)

  -- the end of a step is set by its duration
  pub end_set : (place : ℕ) (d : Difference) → place < length durations → (event : ℕ) → event ≡ 2 * place + 2 → setting_of durations event ≡ get_or durations place d
  end_set place d below event is =
      let step = are.each place d below in
      setting_holds (λ setting. setting ≡ get_or durations place d) event durations
      (λ none. absurd (none place d below (omega (arith, step.1, is))))
      (λ other e there ends.
      let one = are.each other e there in
      let same : other ≡ place = omega (arith, one.1, ends, is) in
      ap (λ n. get_or durations n e) same ∙ get_or_default durations place e d below)

  -- and any other event by none
  pub not_set : (event : ℕ) → ((place : ℕ) → place < length durations → event ≢ 2 * place + 2) → setting_of durations event ≡ still event
  not_set event other =
      setting_holds (λ setting. setting ≡ still event) event durations (λ none. refl)
      (λ place d below ends. let step = are.each place d below in absurd (other place below (omega (arith, step.1, ends))))

  -- steps whose durations may last are apart
  pub steps_apart : All (λ duration. duration.lo ≤ℤ duration.hi) durations → AreApart durations
  steps_apart lasting = record {
    origin = not_set 0 (λ place below same. omega (arith, same));
    starts = λ event. ⊎_elim
        (λ (stands : setting_of durations event ≡ still event). subst (λ (b : Difference). setting_of durations b.from ≡ still b.from) (sym stands) stands)
        (λ found. subst (λ n. setting_of durations n ≡ still n) (sym found.2) (not_set (2 * found.0 + 1) (λ place below same. omega (arith, same))))
        (set_by event);
    own = λ place d below. let step = are.each place d below in end_set place d below (get_or durations place d).to (omega (arith, step.1));
    earlier = earlier_start;
    ordered = λ event. setting_holds (λ b. b.lo ≤ℤ b.hi) event durations (λ none. omega (arith, ints)) (λ place d below ends. lasting place d below);
  }
