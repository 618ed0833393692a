use Rattle.std.proofs.{Common.{ap, length, ◌∙◌, arith}, lemmas.List.{take_rest, drop_at}}
use Rattle.stn_loosen.{specs.Loosened.{durations_of, orders_of}, proofs.ThreeParts.durations_end}
use Rattle.stn_loosen.proofs.parts.orders_of.Goals as goal

pub returns : goal.returns
returns g c =
    let source = c.args.base.now in
    let behind = c.behind_horizon-behind.ensures.value in
    take_rest c.behind_horizon-behind.result.now c.min-count.result
    ∙ rw behind (drop_at (durations_of source) (orders_of source) c.min-count.result
    (omega (arith, c.min-count.ensures, ap length behind, c.from.ensures, c.steps.ensures.value, durations_end source)))
