use Rattle.std.proofs.{Common.{◌∙◌, ◌-◌, ◌/◌, sym, arith}, lemmas.Bool.{ltb-true, ltb-false}}
use Rattle.stn_loosen.proofs.{Steps.{end_set, not_set}, span.setting_of.Goals.{then-number-eq0-via-then-number-eq0, then-number-eq0-via-else-number-eq0+then-number-eq1}}
use Rattle.stn_loosen.proofs.span.setting_of.Goals as goal

pub returns-then-number-eq0-clause-value : goal.returns-then-number-eq0-clause-value
returns-then-number-eq0-clause-value c =
    cc (not_set c.args.durations.now c.requires c.args.event (λ place below same. elim c.then-number-eq0.branch [ then-number-eq0-via-then-number-eq0 w ↦ omega (arith, c.from-number.ensures, c.number.ensures.value, w.if-number-eq0.true, same) | then-number-eq0-via-else-number-eq0+then-number-eq1 w ↦ omega (arith, c.from-number.ensures, c.number.ensures.value, w.if-number-eq1.true, same) ]))

pub returns-in-Some-clause-value : goal.returns-in-Some-clause-value
returns-in-Some-clause-value c =
    c.of.ensures.value ∙ c.in-Some.ensures.lookup.1
    ∙ sym (end_set c.args.durations.now c.requires (c.from-number.result / 2 - 1) c.in-Some.duration.now (ltb-true _ _ (sym c.in-Some.ensures.lookup.0)) c.args.event
    (omega (arith, c.from-number.ensures, c.number.ensures.value, c.if-number-eq0.false, c.if-number-eq1.false)))

pub returns-in-None-clause-value : goal.returns-in-None-clause-value
returns-in-None-clause-value c =
    let past = ltb-false _ _ (sym c.in-None.ensures.lookup.0) in
    cc (not_set c.args.durations.now c.requires c.args.event (λ place below same. omega (arith, c.from-number.ensures, c.number.ensures.value, past, below, same)))
