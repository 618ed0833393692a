use Rattle.std.proofs.{Common.arith, lemmas.Int.ints}
use Rattle.stn_loosen.proofs.Sides.{is_upper, is_lower}
use Rattle.stn_loosen.proofs.span.moved_sides.Goals as goal

pub returns-clause-upper : goal.returns-clause-upper
returns-clause-upper c =
    is_upper c.args.durations.now c.args.bound.now c.from.result c.to.result c.setting_of-from.result c.setting_of-to.result _ c.from.ensures.value c.to.ensures.value c.setting_of-from.ensures.value c.setting_of-to.ensures.value
    (omega (arith, ints))

pub returns-clause-lower : goal.returns-clause-lower
returns-clause-lower c =
    is_lower c.args.durations.now c.args.bound.now c.from.result c.to.result c.setting_of-from.result c.setting_of-to.result _ c.from.ensures.value c.to.ensures.value c.setting_of-from.ensures.value c.setting_of-to.ensures.value
    (omega (arith, ints))

pub returns-clause-upper_reach : goal.returns-clause-upper_reach
returns-clause-upper_reach c = omega (arith, ints)

pub returns-clause-lower_reach : goal.returns-clause-lower_reach
returns-clause-lower_reach c = omega (arith, ints)
