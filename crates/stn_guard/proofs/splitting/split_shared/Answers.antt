use Rattle.std.proofs.{lemmas.{Grind.common_steps, List.take_all}, Common.{arith, rules, subst}}
use Rattle.stn_guard.{specs.{Owners.owner_of, Making.shared_arcs, Splitting.Splits}, proofs.Steps.{splits_none, splits_on, can_here}}
use Rattle.stn_guard.proofs.splitting.split_shared.Goals as goal

pub loop-bound-init : goal.loop-bound-init
loop-bound-init g c = splits_none

pub split_bound-requires-clause-can : goal.split_bound-requires-clause-can
split_bound-requires-clause-can g c = search (rules, can_here)

pub loop-bound-preserved : goal.loop-bound-preserved
loop-bound-preserved g c = grind (arith, common_steps, splits_on)

pub returns : goal.returns
returns g c =
    subst (λ bounds. Splits (shared_arcs (owner_of c.args.owners.now) bounds) c.args.windows.now c.loop-bound.windows) (take_all c.loop-bound.bound-index c.args.bounds.now c.loop-bound-test.false) c.loop-bound.invariant
