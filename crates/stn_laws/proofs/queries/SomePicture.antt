-- Each plan and each state have a picture, however it is drawn and with any names of the steps.
use Rattle.std.{proofs.{Common.{◌⊎◌, inl, inr, ℕ, ℤ, pos, ◌+◌, ◌<◌, ◌≤◌, not, List, [], ◌∷◌, ◌++◌, map, filter, neg_ℤ, refl, sym, subst, arith}, lemmas.{Int.{ints, by_lt_z}, List.{Elements.{All-filter, All-from_get_or, All-map, All-nil, All-weaker}, FromFn.{get_or-map-range_with_len, get_or-range_with_len, length-map-range_with_len, length-range_with_len}}}}, specs.{Prelude.{Option, Some, None, All}, List.range_with_len}}
use Rattle.stn_time.{proofs.Each.All-right, specs.Time.horizon}
use Rattle.stn_net.specs.{Difference.{Difference, IsBoundWithin}, Schedule.{Meets, HasSchedule}, Windows.Window.IsWindow}
use Rattle.stn_lift.specs.PlanSource.{PlanSource, base_bounds, events_of}
use Rattle.stn_records.specs.Content.{Content, live_of}
use Rattle.stn_site.specs.{Bounds.{all_bounds, live_bounds}, Names.live_ids, Report.is_done, Windows.{AreWindows}}
use Rattle.stn_laws.proofs.{questions.{Found.{AreFound, IsInOrder, possible_found, window_found}, Cycles.some_cycle, SomeReport.{IsSoundState, differences}}, queries.SomeRepairs.{IsBegun, base_begun, found_or_none, live_in_order, more_begun, some_repairs}}
use Rattle.stn_chart.specs.{Chart.{Look, floor, floors, floors_at, overdue_event, chart_of}, Frame.plan_text}
use Rattle.stn_walk.specs.Walk.{walk_of, walk_text}
use Rattle.stn_picture.specs.Picture.{IsPicture}

-- the windows of the origin and of all events
some_windows : {bounds : List Difference} {events : ℕ} {far : ℕ → ℕ → ℤ} → AreFound bounds events far → (windows : List (ℤ × ℤ)) × AreWindows bounds events windows
some_windows {bounds} {events} {far} found = (
  map window (range_with_len 0 (events + 1)),
  record {
    possible = possible_found found;
    one_each = length-map-range_with_len _ 0 _;
    each = λ event within.
        subst (λ (at : ℤ × ℤ). IsWindow bounds event at.0 at.1) (sym (get_or-map-range_with_len window 0 (events + 1) event event (pos 0, pos 0) (omega (arith, within)) (omega arith)))
        (window_found found event within);
  },
)
  where
    window : ℕ → ℤ × ℤ
    window event = (neg_ℤ (far event 0), far 0 event)

module _ (events : ℕ) (now : ℤ) where
  abbrev Floors : List ℕ → List Difference
  Floors left = map (floor now) left

  -- that events come now or later is in order, or can't be met, if now lies past the horizon
  floors_or_none : (left : List ℕ) → All (λ event. event ≤ events) left → All (IsInOrder events) (Floors left) ⊎ ((time : ℕ → ℤ) → ¬ All (Meets time) (Floors left))
  floors_or_none [] within = inl (All-nil (IsInOrder events))
  floors_or_none (event ∷ rest) within = by_lt_z horizon now
      (λ past. inr (λ time met. let first = met 0 (floor now event) (omega arith) in omega (arith, ints, first.0, first.1, past)))
      (λ ordered. inl (All-map (IsInOrder events) (floor now) (event ∷ rest) (λ k d below. record { named = record { from = omega arith; to = within k d below }; ordered = ordered })))

-- events of the plan that are left are events of the plan
left_within : (state : Content) (events : ℕ) → All (λ event. event ≤ events) (filter (λ event. not (is_done state event)) (range_with_len 1 events))
left_within state events =
    All-filter (λ event. not (is_done state event)) (λ event. event ≤ events) _
    (All-from_get_or (λ event. event ≤ events) (range_with_len 1 events) 0
    (λ i below.
    let within : i < events = omega (arith, below, length-range_with_len 1 events) in
    omega (arith, within, get_or-range_with_len 1 events i 0 within)))

module _ {source : PlanSource} {state : Content} (sound : IsSoundState source state) where
  abbrev all : List Difference
  all = all_bounds source state

  abbrev waiting : Option ℤ → List Difference
  waiting now = all ++ floors state (events_of source) now

  all_begun : IsBegun (events_of source) all
  all_begun =
      more_begun _ (base_begun source sound.based)
      (All-weaker (IsBoundWithin (events_of source)) (IsInOrder (events_of source)) (λ d one. record { named = one.named; ordered = one.ordered }) (live_bounds state) sound.live)

  -- what is left may come now or later, or not
  waiting_or_none : (now : Option ℤ) → ((far : ℕ → ℕ → ℤ) × AreFound (waiting now) (events_of source) far) ⊎ (¬ HasSchedule (waiting now))
  waiting_or_none None = found_or_none (more_begun [] all_begun (All-nil _))
  waiting_or_none (Some now) =
      elim (floors_or_none _ now _ (left_within state (events_of source))) [
        | inl each ↦ found_or_none (more_begun (floors_at state (events_of source) now) all_begun each)
        | inr none ↦ inr (λ has. none has.0 (All-right (Meets has.0) all (floors_at state (events_of source) now) has.1.met))
      ]

  pub some_picture : (look : Look) (names : List (List ℕ)) → (text : List ℕ) × IsPicture look names source state text
  some_picture look names =
      elim (waiting_or_none look.present) [
        | inl (far, found) ↦
            let (windows, are) = some_windows found in
            (plan_text (chart_of look names source state windows None), inl (record { windows = windows; overdue = None; drawn = inl (are, refl); whole = refl }))
        | inr late ↦ elim (differences sound) [
          | inl (far, found) ↦
              let (windows, are) = some_windows found in
              let overdue = overdue_event state windows (events_of source) look.present in
              (plan_text (chart_of look names source state windows overdue), inl (record { windows = windows; overdue = overdue; drawn = inr (late, are, refl); whole = refl }))
          | inr (place, far, first) ↦
              let (links, named, negative) = some_cycle first all_begun.each in
              let live = live_in_order sound in
              let (repairs, are) = some_repairs (base_bounds source) (events_of source) (base_begun source sound.based) (live_of state) live (live_of state) live in (
                walk_text (walk_of look.title names (base_bounds source) (live_ids state) (live_bounds state) links repairs),
                inr (record { links = links; named = named; negative = negative; repairs = repairs; are = are; whole = refl }),
              )
        ]
      ]
