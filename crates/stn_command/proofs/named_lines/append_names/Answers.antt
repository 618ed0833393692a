use Rattle.std.{proofs.{Common.{◌≡◌, ◌∙◌, ℕ, ◌+◌, ◌<◌, ◌≤◌, ◌++◌, ◌==◌, Bool, true, false, List, add-one, refl, sym, ap, arith, get_or, set, length, map, take}, Math.Bool.{or-true, or-false}, lemmas.{Bool.Decides.nat_tests, Grind.{common_steps, get_or_default_zero}, List.{append-nil, get_or-set_same, get_or-set_other, length-set, Folds.list_any_more}}}, specs.{List.list_any, Prelude.slice_index_or}}
use Rattle.stn_text.proofs.Growing.{range_grown}
use Rattle.stn_net.specs.Event.{most_steps}
use Rattle.stn_lift.specs.BaseBounds.{step_of}
use Rattle.stn_site.proofs.Flags.{get_or-replicate_same}
use Rattle.stn_command.specs.NamedLines.{name_after, name_unless}
use Rattle.stn_command.proofs.named_lines.append_names.Goals as goal

-- the flag of a step, once that of one more event's step is set
named_more : (flags : List Bool) (events : List ℕ) (place flag step : ℕ) → place < length events → flag ≡ step_of (get_or events place 0) → flag < length flags
    → get_or flags step false ≡ list_any (λ other. step_of other == step) (take place events)
    → get_or (set flags flag true) step false ≡ list_any (λ other. step_of other == step) (take (place + 1) events)
named_more flags events place flag step within is room named =
    grind (arith, common_steps, nat_tests, list_any_more, get_or-set_same, get_or-set_other, or-true, or-false)

pub loop-event-init : goal.loop-event-init
loop-event-init g c = record {
  text = sym (append-nil c.args.out.now.items);
  one_each = refl;
  named = λ step within. get_or-replicate_same 257 false step;
}

pub loop-event-preserved : goal.loop-event-preserved
loop-event-preserved g c =
    let place = c.loop-event.event-index in
    let names = map (λ name. name.items) c.args.names.now in
    let events = c.args.events.now in
    let event = get_or events place 0 in
    let flags = c.loop-event.named_steps in
    let was = c.loop-event.out.items in
    let within : place < length events = omega arith in
    let here : c.event-item.result ≡ event = c.event-item.is ∙ get_or_default_zero events place c.event-item.result within in
    let flag : c.from-step.result ≡ step_of event = c.from-step.ensures ∙ c.step_of.ensures ∙ ap step_of here in
    let small : step_of event ≤ most_steps = omega arith in
    let named : get_or flags c.from-step.result false ≡ list_any (λ other. step_of other == step_of event) (take place events) =
    ap (λ step. get_or flags step false) flag ∙ c.loop-event.invariant.named (step_of event) small in
    let appended : c.append_name.new.out.items ≡ was ++ name_unless names (get_or flags c.from-step.result false) event =
    c.in_ok-append_name.ensures ∙ ap (λ one. was ++ name_unless names (get_or flags c.from-step.result false) one) here in
    record {
      text = range_grown (λ at. name_after names (take at events) (slice_index_or events at 0)) 0 place place (place + 1) c.args.out.now.items was c.append_name.new.out.items
          (omega arith) (add-one place) c.loop-event.invariant.text (appended ∙ ap (λ is_named. was ++ name_unless names is_named event) named);
      one_each = length-set flags c.from-step.result true ∙ c.loop-event.invariant.one_each;
      named = λ step least. named_more flags events place c.from-step.result step within flag (omega arith) (c.loop-event.invariant.named step least);
    }
