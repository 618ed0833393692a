-- What sets the events of a plan, and times that keep to promised ones.
use Rattle.std.{proofs.{Common.{rules, ◌≡◌, ◌≢◌, ℕ, ◌≤◌, ℤ, pos, ◌+ℤ◌, ◌≤ℤ◌, cond, eqb, find, List, [], ◌∷◌, ◌++◌, get_or, Some, refl, sym, ap, subst, arith, All}, lemmas.{Bool.{cond_both, eqb-true, eqb-false, eq-eqb, ne_eqb}, Int.ints, List.Elements.{All-nil, All-cons, All-head, All-tail}}}, specs.Prelude.unwrap_or}
use Rattle.stn_time.specs.Time.{horizon}
use Rattle.stn_net.{specs.{Difference.{Difference, NamesEvents}, Horizon.horizon_bounds, Schedule.{Meets, IsSchedule}}, proofs.{Closure.schedule_before, Widest.horizon_times}}
use Rattle.stn_loosen.specs.{Promise.{still, setting_of, Follows, Keeps, Promises}, Moved.{moved_upper, moved_lower, moved_bounds}}

-- what holds where an event stands, if no duration ends it, and of each duration that ends it, holds of what sets it
pub setting_holds : (P : Difference → Type 0) (event : ℕ) (durations : List Difference) → (All (λ duration. duration.to ≢ event) durations → P (still event))
    → All (λ duration. duration.to ≡ event → P duration) durations → P (setting_of durations event)
setting_holds P event [] stands each = search rules
setting_holds P event (duration ∷ durations) stands each =
    cond_both (eqb duration.to event) (Some duration) (find (λ (d : Difference). eqb d.to event) durations) (λ found. P (unwrap_or found (still event)))
    (λ same. All-head (λ (d : Difference). d.to ≡ event → P d) duration durations each (eqb-true duration.to event same))
    (λ other. setting_holds P event durations (λ none. stands (All-cons (λ (d : Difference). d.to ≢ event) duration durations (eqb-false duration.to event other) none))
    (All-tail (λ (d : Difference). d.to ≡ event → P d) duration durations each))

-- times that meet the durations keep to themselves
pub keeps_itself : (durations : List Difference) (time : ℕ → ℤ) → All (Meets time) durations → Keeps durations time time
keeps_itself durations time met event =
    setting_holds (Follows time (time event)) event durations (λ none. (omega (arith, ints), omega (arith, ints)))
    (λ k d below here. subst (λ n. Follows time (time n) (get_or durations k d)) here (met k d below))

-- a bound is between two of so many events
pub record IsBetween (events : ℕ) (bound : Difference) : Type 0 where
  pub differs : bound.from ≢ bound.to
  pub named : NamesEvents events bound

-- each duration sets the event that it ends, and begins with an event that ends none, and comes no later
pub record AreApart (durations : List Difference) : Type 0 where
  pub origin : setting_of durations 0 ≡ still 0
  pub starts : (event : ℕ) → setting_of durations (setting_of durations event).from ≡ still (setting_of durations event).from
  pub own : All (λ duration. setting_of durations duration.to ≡ duration) durations
  pub earlier : (event : ℕ) → (setting_of durations event).from ≤ event
  pub ordered : (event : ℕ) → (setting_of durations event).lo ≤ℤ (setting_of durations event).hi

module _ (durations : List Difference) where
  -- something holds of both moved sides of a bound
  abbrev pub BothSides : (Difference → Type 0) → Difference → Type 0
  BothSides P bound = P (moved_upper durations bound) × P (moved_lower durations bound)

  module _ (P : Difference → Type 0) where
    pub moved_all : (bounds : List Difference) → All (BothSides P) bounds → All P (moved_bounds durations bounds)
    moved_all [] all = All-nil P
    moved_all (bound ∷ bounds) all =
        let here = All-head (BothSides P) bound bounds all in
        All-cons P (moved_upper durations bound) (moved_lower durations bound ∷ moved_bounds durations bounds) here.0
        (All-cons P (moved_lower durations bound) (moved_bounds durations bounds) here.1 (moved_all bounds (All-tail (BothSides P) bound bounds all)))

    pub moved_each : (bounds : List Difference) → All P (moved_bounds durations bounds) → All (BothSides P) bounds
    moved_each [] all = All-nil (BothSides P)
    moved_each (bound ∷ bounds) all =
        let others = moved_bounds durations bounds in
        let rest = All-tail P (moved_upper durations bound) (moved_lower durations bound ∷ others) all in
        All-cons (BothSides P) bound bounds (All-head P (moved_upper durations bound) (moved_lower durations bound ∷ others) all, All-head P (moved_lower durations bound) others rest)
        (moved_each bounds (All-tail P (moved_lower durations bound) others rest))

  -- the moved sides are bounds of starts
  pub sides_alike : (promised time : ℕ → ℤ) → ((event : ℕ) → time (setting_of durations event).from ≡ promised (setting_of durations event).from) → (bounds : List Difference)
      → All (BothSides (Meets promised)) bounds → All (BothSides (Meets time)) bounds
  sides_alike promised time same bounds met k d below = search rules

module _ (durations : List Difference) (apart : AreApart durations) where
  module _ (promised time : ℕ → ℤ) (kept : Keeps durations promised time) where
    -- what ends nothing comes as promised
    stands_kept : (event : ℕ) → setting_of durations event ≡ still event → time event ≡ promised event
    stands_kept event stands = let here : Follows promised (time event) (still event) = subst (Follows promised (time event)) stands (kept event) in omega (arith, ints, here.0, here.1)

    pub start_kept : (event : ℕ) → time (setting_of durations event).from ≡ promised (setting_of durations event).from
    start_kept event = stands_kept (setting_of durations event).from (apart.starts event)

    pub origin_kept : time 0 ≡ promised 0
    origin_kept = stands_kept 0 apart.origin

    -- the durations themselves are met
    pub durations_kept : All (Meets time) durations
    durations_kept k d below =
        let duration = get_or durations k d in
        let own : setting_of durations duration.to ≡ duration = apart.own k d below in
        let here : Follows promised (time duration.to) duration = subst (Follows promised (time duration.to)) own (kept duration.to) in
        let start : time duration.from ≡ promised duration.from = subst (λ (b : Difference). time b.from ≡ promised b.from) own (start_kept duration.to) in
        (omega (arith, ints, here.0, start), omega (arith, ints, here.1, start))

    -- and each bound of which the promised times meet the moved sides
    moved_kept : (bound : Difference) → BothSides durations (Meets promised) bound → Meets time bound
    moved_kept bound sides =
        let from = kept bound.from in
        let to = kept bound.to in
        (omega (arith, ints, sides.1.0, from.1, to.0), omega (arith, ints, sides.0.1, from.0, to.1))

  -- times that meet the moved bounds are a promise
  pub moved_promise : (bounds : List Difference) (promised : ℕ → ℤ) → IsSchedule (moved_bounds durations bounds) promised → Promises durations bounds promised
  moved_promise bounds promised schedule time kept = record {
    origin = let same = origin_kept promised time kept in omega (arith, ints, same, schedule.origin);
    met = λ k d below. moved_kept promised time kept (get_or bounds k d) (moved_each durations (Meets promised) bounds schedule.met k d below);
  }

  module _ (promised : ℕ → ℤ) where
    -- the times at which all durations are shortest, and that which one event ends is longest
    abbrev pub latest_at : ℕ → ℕ → ℤ
    latest_at one event = promised (setting_of durations event).from +ℤ cond (eqb event one) (setting_of durations event).hi (setting_of durations event).lo

    pub latest_keeps : (one : ℕ) → Keeps durations promised (latest_at one)
    latest_keeps one event =
        let setting = setting_of durations event in
        let less = apart.ordered event in
        cond_both (eqb event one) setting.hi setting.lo (λ lasts. Follows promised (promised setting.from +ℤ lasts) setting)
        (λ longest. (omega (arith, ints, less), omega (arith, ints, less))) (λ shortest. (omega (arith, ints, less), omega (arith, ints, less)))

    latest_here : (one : ℕ) → latest_at one one ≡ (promised (setting_of durations one).from +ℤ (setting_of durations one).hi)
    latest_here one = ap (λ t. promised (setting_of durations one).from +ℤ cond t (setting_of durations one).hi (setting_of durations one).lo) (eq-eqb one one refl)

    latest_there : (one event : ℕ) → event ≢ one → latest_at one event ≡ (promised (setting_of durations event).from +ℤ (setting_of durations event).lo)
    latest_there one event other = ap (λ t. promised (setting_of durations event).from +ℤ cond t (setting_of durations event).hi (setting_of durations event).lo) (ne_eqb event one other)

    module _ (events : ℕ) (others : List Difference) (is : Promises durations (horizon_bounds events ++ others) promised) where
      pub latest_schedule : (one : ℕ) → IsSchedule (horizon_bounds events ++ others) (latest_at one)
      latest_schedule one = is (latest_at one) (latest_keeps one)

      -- the starts are promised within the horizon
      start_within : (event : ℕ) → event ≤ events → (pos 0 ≤ℤ promised (setting_of durations event).from) × (promised (setting_of durations event).from ≤ℤ horizon)
      start_within event last =
          let there = horizon_times events (latest_at 0) (schedule_before (horizon_bounds events) others (latest_at 0) (latest_schedule 0)) (setting_of durations event).from (omega (arith, apart.earlier event, last)) in
          let same = start_kept promised (latest_at 0) (latest_keeps 0) event in
          (omega (arith, ints, there.0, same), omega (arith, ints, there.1, same))

      -- a promise meets both moved sides of each bound
      pub sides_met : All (IsBetween events) (horizon_bounds events ++ others) → All (BothSides durations (Meets promised)) (horizon_bounds events ++ others)
      sides_met between k d below =
          let bound = get_or (horizon_bounds events ++ others) k d in
          let is_between : IsBetween events bound = between k d below in
          let from = start_within bound.from is_between.named.from in
          let to = start_within bound.to is_between.named.to in
          let high : Meets (latest_at bound.to) bound = (latest_schedule bound.to).met k d below in
          let low : Meets (latest_at bound.from) bound = (latest_schedule bound.from).met k d below in (
            (omega (arith, ints, from.1, to.0), omega (arith, ints, high.1, latest_here bound.to, latest_there bound.to bound.from is_between.differs)),
            (omega (arith, ints, low.0, latest_here bound.from, latest_there bound.from bound.to (λ same. is_between.differs (sym same))), omega (arith, ints, from.0, to.1)),
          )

      pub promise_origin : promised 0 ≡ pos 0
      promise_origin = let same = origin_kept promised (latest_at 0) (latest_keeps 0) in let schedule = latest_schedule 0 in omega (arith, ints, same, schedule.origin)
