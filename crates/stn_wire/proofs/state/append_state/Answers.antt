use Rattle.std.{proofs.{Common.{length, ap, ◌∙◌, arith}, lemmas.Grind.common_steps}, specs.FinMap.entries}
use Rattle.stn_records.specs.Content.{Content}
use Rattle.stn_wire.proofs.States.{few_entries}
use Rattle.stn_wire.proofs.state.append_state.Goals as goal

pub append_counted-requires : goal.append_counted-requires
append_counted-requires g c =
    let read = c.entries.ensures.value ∙ ap entries (c.additions.ensures ∙ ap (λ (s : Content). s.additions) c.state-state.ensures.value) in
    omega (arith, ap length read, few_entries c.args.state.now c.state-state.ensures.sound)

pub append_counted-requires-2 : goal.append_counted-requires-2
append_counted-requires-2 g c =
    let read = c.entries-2.ensures.value ∙ ap entries (c.tombstones.ensures ∙ ap (λ (s : Content). s.tombstones) c.state-state.ensures.value) in
    omega (arith, ap length read, few_entries c.args.state.now c.state-state.ensures.sound)

pub append_entries-requires : goal.append_entries-requires
append_entries-requires g c =
    let read = c.entries-3.ensures.value ∙ ap entries (c.replacements.ensures ∙ ap (λ (s : Content). s.replacements) c.state-state.ensures.value) in
    omega (arith, ap length read, few_entries c.args.state.now c.state-state.ensures.sound)

pub returns-clause-appended : goal.returns-clause-appended
returns-clause-appended g c = grind (arith, common_steps)
