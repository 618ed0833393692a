use Rattle.std.{proofs.Common.{rules, length, ap, ◌∙◌, arith}, specs.FinMap.entries}
use Rattle.stn_records.specs.Content.{Content}
use Rattle.stn_wire.{specs.declared.layout.Layout.TheVariants.New, proofs.States.{few_entries, amendments_short, length-state_bytes}}
use Rattle.stn_wire.proofs.state.state_length.Goals as goal

pub entries_length-requires : goal.entries_length-requires
entries_length-requires g c =
    let read = c.entries.ensures.value ∙ ap entries (c.replacements.ensures ∙ ap (λ (s : Content). s.replacements) c.state-3.ensures.value) in
    omega (arith, ap length read, few_entries c.args.state.now c.state.ensures.sound)

pub returns-clause-value : goal.returns-clause-value
returns-clause-value g c = search (rules, length-state_bytes)

pub returns-clause-small : goal.returns-clause-small
returns-clause-small g c =
    let value = returns-clause-value g c ∙ length-state_bytes New c.args.state.now in
    omega (arith, value, few_entries c.args.state.now c.state.ensures.sound, amendments_short (entries c.args.state.now.replacements))

pub overflow_add-result : goal.overflow_add-result
overflow_add-result g c = let small = returns-clause-small g c in omega (arith, small)
