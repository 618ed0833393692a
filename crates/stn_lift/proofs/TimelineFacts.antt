-- The steps of a plan, one after another.
use Rattle.std.proofs.{Common.{rules, ◌≡◌, ℕ, ℤ, pos, ◌+ℤ◌, suc, ◌+◌, ◌*◌, ◌<◌, List, [], ◌∷◌, ◌++◌, map, length, get_or, drop, add-one, Result, Ok, refl, sym, ap, subst, ◌∙◌, append_assoc, arith}, Math.Seq.drop-cons, lemmas.{Slice.Zip.AllZip-long, List.{map-append, append-nil, length-map}}}
use Rattle.indexmap.proofs.SetLemmas.{AllZip-push}
use Rattle.stn_pddl.specs.Schemas.{ActionSchema}
use Rattle.stn_lift.{specs.{Plan.Steps.PlannedStep, declared.fault.LiftFault.LiftFault, Footprints.{Footprint, no_footprint}, BaseBounds.{times_behind, footprints_behind, event_footprints}, Timelines.{IsTimeline, IsLifted}, Numbering.{Numbering, IsUnambiguous, KeepsNumbers, IsNumbered}, Activities.{Activity, activity_of, activities, is_lift_memory}}, proofs.{NumberLists.{numbered_kept, zip_weaker}, Sharing.{none_numbered, numbered_at, same_interfere}}}
use Rattle.stn_text.{specs.Faults.{◌>>=◌, Fails}}

times_behind-push : (steps : List Activity) (step : Activity) → times_behind (steps ++ step ∷ []) ≡ (times_behind steps ++ step.time ∷ []) ++ (step.time +ℤ step.duration) ∷ []
unfolding times_behind
times_behind-push [] step = refl
times_behind-push (first ∷ steps) step = cc (times_behind-push steps step)

footprints_behind-push : (steps : List Activity) (step : Activity) → footprints_behind (steps ++ step ∷ []) ≡ (footprints_behind steps ++ step.start ∷ []) ++ step.end ∷ []
unfolding footprints_behind
footprints_behind-push [] step = refl
footprints_behind-push (first ∷ steps) step = cc (footprints_behind-push steps step)

-- one step more
pub timeline_pushed : {old middle new : Numbering} {steps : List Activity} (step : Activity) {durations times more_durations more_times : List ℤ}
    {footprints more_footprints : List (Footprint ℕ)} {start end : Footprint ℕ}
    → KeepsNumbers old middle → KeepsNumbers middle new → IsUnambiguous new → IsNumbered middle start step.start → IsNumbered new end step.end
    → more_durations ≡ durations ++ step.duration ∷ [] → more_times ≡ (times ++ step.time ∷ []) ++ (step.time +ℤ step.duration) ∷ []
    → more_footprints ≡ (footprints ++ start ∷ []) ++ end ∷ []
    → IsTimeline old steps durations times footprints → IsTimeline new (steps ++ step ∷ []) more_durations more_times more_footprints
timeline_pushed {old} {middle} {new} {steps} step {footprints} {start} {end} one two unambiguous starts ends is_durations is_times is_footprints was =
    let first = zip_weaker (IsNumbered old) (IsNumbered new) (λ numbered atoms is. numbered_kept middle new two (numbered_kept old middle one is))
    footprints (event_footprints steps) was.numbered in
    let second = AllZip-push (IsNumbered new) footprints (event_footprints steps) start step.start first (numbered_kept middle new two starts) in
    let third = AllZip-push (IsNumbered new) (footprints ++ start ∷ []) (event_footprints steps ++ step.start ∷ []) end step.end second ends in
    rw (is_durations, is_times, is_footprints) (search (rules, map-append, times_behind-push, footprints_behind-push))

-- no steps
pub timeline_none : (numbering : Numbering) (durations times : List ℤ) (footprints : List (Footprint ℕ)) → IsUnambiguous numbering
    → durations ≡ [] → times ≡ pos 0 ∷ [] → footprints ≡ no_footprint ∷ [] → IsTimeline numbering [] durations times footprints
unfolding times_behind footprints_behind
timeline_none numbering durations times footprints unambiguous no_durations no_times none = record {
  unambiguous = unambiguous;
  lasting = no_durations;
  timed = no_times;
  numbered = rw none (none_numbered numbering, tt);
}

pub length-times_behind : (steps : List Activity) → length (times_behind steps) ≡ 2 * length steps
unfolding times_behind
length-times_behind [] = refl
length-times_behind (step ∷ steps) = omega (arith, length-times_behind steps)

length-footprints_behind : (steps : List Activity) → length (footprints_behind steps) ≡ 2 * length steps
unfolding footprints_behind
length-footprints_behind [] = refl
length-footprints_behind (step ∷ steps) = omega (arith, length-footprints_behind steps)

-- a timeline of all steps
pub all_lifted : {numbering : Numbering} {steps : List Activity} {durations times : List ℤ} {footprints : List (Footprint ℕ)}
    → IsTimeline numbering steps durations times footprints → IsLifted steps durations times footprints
all_lifted {numbering} {steps} {durations} {footprints} was =
    let mapped : length (map (λ (s : Activity). s.duration) steps) ≡ length steps = rw length-map refl in
    let counted : length durations ≡ length steps = ap length was.lasting ∙ mapped in
    record {
      lasting = was.lasting;
      timed = was.timed;
      many_times = omega (arith, counted, ap length was.timed, length-times_behind steps);
      many_footprints = omega (arith, counted, AllZip-long (IsNumbered numbering) footprints (event_footprints steps) was.numbered, length-footprints_behind steps);
      interfering = λ one other. same_interfere numbering was.unambiguous
          (numbered_at numbering footprints (event_footprints steps) was.numbered one) (numbered_at numbering footprints (event_footprints steps) was.numbered other);
    }

module _ (actions : List ActionSchema) where
  -- what is found, and then what is left
  abbrev pub behind : List Activity → Result (List Activity) LiftFault → Result (List Activity) LiftFault
  behind found meaning = meaning >>= λ others. Ok (found ++ others)

  -- one step more is found
  pub behind_more : (before : ℕ) (found : List Activity) (step : PlannedStep) (steps : List PlannedStep) (one : Activity) → activity_of actions (before + 1) step ≡ Ok one
      → behind found (activities actions before (step ∷ steps)) ≡ behind (found ++ one ∷ []) (activities actions (before + 1) steps)
  unfolding activities
  behind_more before found step steps one is = search (rules, append_assoc)

  -- the next step is refused
  fails_next : (before : ℕ) (found : List Activity) (step : PlannedStep) (steps : List PlannedStep) (fault : LiftFault) → Fails is_lift_memory fault (activity_of actions (before + 1) step)
      → Fails is_lift_memory fault (behind found (activities actions before (step ∷ steps)))
  unfolding activities
  fails_next before found step steps fault is = search rules

  module _ (all : List PlannedStep) (place : ℕ) (found : List Activity) (step : PlannedStep) (within : place < length all) (here : step ≡ get_or all place step)
      (whole : activities actions 0 all ≡ behind found (activities actions place (drop place all))) where
    opened : activities actions 0 all ≡ behind found (activities actions place (step ∷ drop (place + 1) all))
    opened =
        let front : drop place all ≡ step ∷ drop (place + 1) all = rw add-one (drop-cons all place step within ∙ ap (λ s. s ∷ drop (suc place) all) (sym here)) in
        whole ∙ ap (λ l. behind found (activities actions place l)) front

    -- the step at a place is refused
    pub fails_at : {number : ℕ} (fault : LiftFault) → number ≡ place + 1 → Fails is_lift_memory fault (activity_of actions number step) → Fails is_lift_memory fault (activities actions 0 all)
    fails_at fault is fails =
        subst (Fails is_lift_memory fault) (sym opened) (fails_next place found step (drop (place + 1) all) fault (subst (λ n. Fails is_lift_memory fault (activity_of actions n step)) is fails))

    -- the step at a place is taken up
    pub found_at : {number : ℕ} {one : Activity} → number ≡ place + 1 → activity_of actions number step ≡ Ok one
        → activities actions 0 all ≡ behind (found ++ one ∷ []) (activities actions (place + 1) (drop (place + 1) all))
    found_at {one} is given = opened ∙ behind_more place found step (drop (place + 1) all) one (ap (λ n. activity_of actions n step) (sym is) ∙ given)

  -- no step is left
  pub behind_all : (before : ℕ) (found : List Activity) → behind found (activities actions before []) ≡ Ok found
  unfolding activities
  behind_all before found = ap Ok (append-nil found)
