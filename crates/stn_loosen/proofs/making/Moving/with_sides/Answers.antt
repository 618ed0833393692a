use Rattle.std.{proofs.{Common.{[], ◌∷◌, ap, subst}, lemmas.Result.{IfOk-weaker, IfErr-weaker, err_from_is_err_and}}, specs.Prelude.{IfOk, IfErr}}
use Rattle.stn_loosen.{specs.{Moved.{moved_upper, moved_lower}, Stepped.IsCauseBehind, Making.{Loosening, AreMadeBehind}}, proofs.{Sides.both_named, Made.{none_made, made_behind, cause_behind}}}
use Rattle.stn_loosen.proofs.making.Moving.with_sides.Goals as goal

pub with_side-requires-clause-named : goal.with_side-requires-clause-named
with_side-requires-clause-named g c = rw c.moved_sides-upper.ensures.upper (both_named c.args.durations.now c.requires.steps c.args.self.events c.args.bound.now c.requires.named).0

pub returns-in_err-with_side-clause-fault : goal.returns-in_err-with_side-clause-fault
returns-in_err-with_side-clause-fault g c =
    let old = c.args.self in
    let upper = moved_upper c.args.durations.now c.args.bound.now in
    let lower = moved_lower c.args.durations.now c.args.bound.now in
    let returned = err_from_is_err_and c.from_residual.result c.from_residual.ensures.1 in
    rw (returned.1, returned.2)
    (cause_behind old old [] (upper ∷ []) (none_made old) (lower ∷ []) c.in_err-with_side.field-0.0 (rw c.moved_sides-upper.ensures.upper at c.in_err-with_side.ensures.fault))

pub with_side-requires-2-clause-named : goal.with_side-requires-2-clause-named
with_side-requires-2-clause-named g c =
    let events = ap (λ (made : Loosening). made.events) c.in_ok-with_side.ensures.made.1 in
    rw (events, c.moved_sides-upper.ensures.lower) (both_named c.args.durations.now c.requires.steps c.args.self.events c.args.bound.now c.requires.named).1

pub returns-clause-made : goal.returns-clause-made
returns-clause-made g c =
    let upper = moved_upper c.args.durations.now c.args.bound.now in
    let lower = moved_lower c.args.durations.now c.args.bound.now in
    let first = subst (λ side. AreMadeBehind c.args.self (side ∷ []) c.in_ok-with_side.field-0) c.moved_sides-upper.ensures.upper c.in_ok-with_side.ensures.made in
    IfOk-weaker c.with_side-2.result _ _ (made_behind c.args.self c.in_ok-with_side.field-0 (upper ∷ []) (lower ∷ []) first)
    (subst (λ side. IfOk c.with_side-2.result (AreMadeBehind c.in_ok-with_side.field-0 (side ∷ []))) c.moved_sides-upper.ensures.lower c.with_side-2.ensures.made)

pub returns-clause-fault : goal.returns-clause-fault
returns-clause-fault g c =
    let upper = moved_upper c.args.durations.now c.args.bound.now in
    let lower = moved_lower c.args.durations.now c.args.bound.now in
    let first = subst (λ side. AreMadeBehind c.args.self (side ∷ []) c.in_ok-with_side.field-0) c.moved_sides-upper.ensures.upper c.in_ok-with_side.ensures.made in
    IfErr-weaker c.with_side-2.result _ _ (cause_behind c.args.self c.in_ok-with_side.field-0 (upper ∷ []) (lower ∷ []) first [])
    (subst (λ side. IfErr c.with_side-2.result (IsCauseBehind c.in_ok-with_side.field-0 (side ∷ []))) c.moved_sides-upper.ensures.lower c.with_side-2.ensures.fault)
