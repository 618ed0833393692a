-- The axis reaches past what it has to show.
use Rattle.std.{proofs.{Common.{rules, ◌≡◌, ℕ, ℤ, zero, suc, ◌+◌, ◌-◌, ◌*◌, ◌/◌, ◌<◌, ◌≤◌, Bool, true, false, List, [], ◌∷◌, if◌then◌else◌, ⊎_elim, refl, subst, sym, arith}, lemmas.Bool.{and_parts, cases_lt}}, specs.{Prelude.Option, List.list_all}}
use Rattle.stn_drawing.{specs.{Axis.{gaps, gap_of, first_gap, fits}, Ticks.{Axis, place_on}}, proofs.AxisGaps.{is_gap, gap_bounds}}
use Rattle.stn_chart.specs.{Chart.{reach, furthest, axis_for, is_open_in, soonest_in, latest_in}, Places.{line_left, line_width}}

-- the axis reaches as far as it has to for each event
pub reached : (windows : List (ℤ × ℤ)) (events event : ℕ) → 1 ≤ event → event ≤ events → reach windows event ≤ furthest windows events
reached windows zero event some within = absurd (omega (arith, some, within))
reached windows (suc events) event some within = ⊎_elim
    (λ (below : event < suc events). omega (arith, reached windows events event some (omega (arith, below))))
    (λ (last : suc events ≤ event).
    let same : event ≡ suc events = omega (arith, within, last) in
    subst (λ e. reach windows e ≤ furthest windows (suc events)) (sym same) (omega arith))
    (cases_lt event (suc events))

gap_case : (b : Bool) (gap other : ℕ) → 1 ≤ gap → 1 ≤ other → 1 ≤ (if b then gap else other)
gap_case b gap other first second = search rules

some_in : (before after : ℕ) (xs : List ℕ) → list_all is_gap xs ≡ true → 1 ≤ first_gap before after xs
some_in before after [] all = omega arith
some_in before after (gap ∷ rest) all =
    let parts = and_parts (is_gap gap) (list_all is_gap rest) all in
    gap_case (fits before after gap) gap (first_gap before after rest) (omega (arith, (gap_bounds gap parts.0).0)) (some_in before after rest parts.1)

-- a gap is some time
some_gap : (before after : ℕ) → 1 ≤ gap_of before after
some_gap before after = some_in before after gaps refl

-- a time before the end of the axis stands on it
pub on_axis : (end time : ℕ) → time < end → line_left + line_width * time / end ≤ line_left + line_width
on_axis end time below = search rules

module _ (windows : List (ℤ × ℤ)) (events event steps : ℕ) (now : Option ℤ) (some : 1 ≤ event) (within : event ≤ events) where
  abbrev axis : Axis
  axis = axis_for windows events now steps

  past : (time : ℕ) → time ≤ furthest windows events → time < axis.long
  past time shown = omega (arith, some_gap)

  soonest_case : (b : Bool) (soonest latest : ℕ) → soonest ≤ latest → soonest ≤ (if b then soonest else latest)
  soonest_case b soonest latest order = search rules

  latest_case : (b : Bool) (soonest latest : ℕ) → b ≡ false → latest ≤ (if b then soonest else latest)
  latest_case b soonest latest closed = search rules

  pub soonest_on_axis : soonest_in windows event ≤ latest_in windows event → place_on axis (soonest_in windows event) ≤ line_left + line_width
  soonest_on_axis order =
      on_axis axis.long (soonest_in windows event)
      (past (soonest_in windows event)
      (omega (arith, reached windows events event some within, soonest_case (is_open_in windows event) (soonest_in windows event) (latest_in windows event) order)))

  pub latest_on_axis : is_open_in windows event ≡ false → place_on axis (latest_in windows event) ≤ line_left + line_width
  latest_on_axis closed =
      on_axis axis.long (latest_in windows event)
      (past (latest_in windows event)
      (omega (arith, reached windows events event some within, latest_case (is_open_in windows event) (soonest_in windows event) (latest_in windows event) closed)))
