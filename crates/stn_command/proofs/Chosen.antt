-- Where all steps are chosen, the events that don't count as left, by the steps of a plan and without them.
use Rattle.std.proofs.{Common.{rules, ◌≡◌, ℕ, ◌+◌, ◌*◌, ◌≤◌, false, ◌||◌, not, List, [], ◌∷◌, Bor, None, unwrap_or, ap, ◌∙◌, arith}, lemmas.List.FromFn.{fill_by_all, get_or-map-range_with_len, length-map-range_with_len}}
use Rattle.stn_site.specs.{declared.own.{StepRange.StepRange, Own.Own}, Own.{is_own, done_or_others}, Report.is_done}
use Rattle.stn_lift.specs.PlanSource.{PlanSource, steps_of, events_of}
use Rattle.stn_records.specs.Content.{Content}
use Rattle.stn_command.specs.{declared.queries.Choice.Choice as ChoiceOfCode, Dispatch.{is_chosen, done_or_not_chosen}, Query.seen_choice}

chosen_all : (own : Own) (range : StepRange) (steps event : ℕ) → own.steps.now ≡ range ∷ [] → range.first ≡ 0 → range.last ≡ steps → event ≤ 2 * steps
    → is_own own event ≡ is_chosen (record { steps = None; starts = own.starts }) event
chosen_all own range steps event list first last within = search rules

pub all_chosen : (own : Own) (range : StepRange) (source : PlanSource) (state : Content) → own.steps.now ≡ range ∷ [] → range.first ≡ 0 → range.last ≡ steps_of source
    → done_or_others own source state ≡ done_or_not_chosen (record { steps = None; starts = own.starts }) source state
all_chosen own range source state list first last =
    fill_by_all (λ event. is_done state event || not (is_chosen (record { steps = None; starts = own.starts }) event)) (done_or_others own source state) (events_of source + 1) false
    (length-map-range_with_len (λ event. is_done state event || not (is_own own event)) 0 (events_of source + 1))
    (λ k below.
    get_or-map-range_with_len (λ event. is_done state event || not (is_own own event)) 0 (events_of source + 1) k k false below (omega arith)
    ∙ ap (λ t. is_done state k || not t) (chosen_all own range (steps_of source) k list first last (omega arith)))

-- the same of the steps that a choice names, or of all
pub chosen_own : (choice : ChoiceOfCode) (steps all : Bor (List StepRange)) (range : StepRange) (source : PlanSource) (state : Content) → steps ≡ unwrap_or choice.steps all
    → all.now ≡ range ∷ [] → range.first ≡ 0 → range.last ≡ steps_of source
    → done_or_others (record { steps = steps; starts = choice.starts }) source state ≡ done_or_not_chosen (seen_choice choice) source state
chosen_own choice steps all range source state is list first last = search (rules, all_chosen)
