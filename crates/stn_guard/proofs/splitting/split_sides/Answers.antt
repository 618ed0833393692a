use Rattle.std.proofs.{Common.{[], ◌∷◌}, lemmas.Result.IfOk-weaker}
use Rattle.stn_guard.{specs.{Making.{upper, lower}, Splitting.Splits}, proofs.Steps.{can_behind, can_front, splits_on}}
use Rattle.stn_guard.proofs.splitting.split_sides.Goals as goal

pub split-requires : goal.split-requires
split-requires g c =
    let b = c.args.bound.now in
    rw (c.from.ensures.value, c.to.ensures.value, c.hi.ensures.value) (can_front (lower b ∷ []) c.requires)

pub split-requires-2 : goal.split-requires-2
split-requires-2 g c =
    let b = c.args.bound.now in
    let first : Splits (upper c.args.bound.now ∷ []) c.args.windows.now c.split.new.windows = rw (c.from.ensures.value, c.to.ensures.value, c.hi.ensures.value) at c.in_ok-split.ensures in
    rw (c.to-2.ensures.value, c.from-2.ensures.value, c.neg.ensures, c.lo.ensures.value) (can_behind c.requires first)

pub returns : goal.returns
returns g c =
    let b = c.args.bound.now in
    let first : Splits (upper c.args.bound.now ∷ []) c.args.windows.now c.split.new.windows = rw (c.from.ensures.value, c.to.ensures.value, c.hi.ensures.value) at c.in_ok-split.ensures in
    IfOk-weaker c.split-2.result _ _ (λ _ second. splits_on first second)
    (rw (c.to-2.ensures.value, c.from-2.ensures.value, c.neg.ensures, c.lo.ensures.value) at c.split-2.ensures)
