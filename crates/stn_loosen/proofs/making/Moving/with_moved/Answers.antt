use Rattle.std.proofs.{Common.{rules, ◌≡◌, ◌++◌, List, ap, ◌∙◌}, lemmas.{List.take_all, Grind.flat_map-append, Result.{IfOk-weaker, IfErr-weaker, err_from_is_err_and}}}
use Rattle.stn_net.specs.Difference.{Difference}
use Rattle.stn_loosen.{specs.{Moved.moved_bounds, Stepped.IsCauseIn, Making.{Loosening, made_bounds, AreMadeBehind}}, proofs.{Made.{none_made, made_next, refused_next, cause_in}, making.Moving.with_moved.{Given.Over, Goals.After-loop-bound}}}
use Rattle.stn_loosen.proofs.making.Moving.with_moved.Goals as goal

join : (durations some others : List Difference) → moved_bounds durations (some ++ others) ≡ moved_bounds durations some ++ moved_bounds durations others
join durations = search (rules, flat_map-append)

-- all bounds were looked at
all : (g : Over) (c : After-loop-bound g) → AreMadeBehind c.args.self (moved_bounds c.args.durations.now c.args.bounds.now) c.loop-bound.moving
all g c = search (rules, take_all)

pub loop-bound-init : goal.loop-bound-init
loop-bound-init g c = none_made c.args.self

pub returns-in_err-moving-clause-fault : goal.returns-in_err-moving-clause-fault
returns-in_err-moving-clause-fault g c =
    let returned = err_from_is_err_and c.from_residual.result c.from_residual.ensures.1 in
    rw (returned.1, returned.2)
    (refused_next (moved_bounds c.args.durations.now) (join c.args.durations.now) c.args.self c.loop-bound.moving c.args.bounds.now c.loop-bound.bound-index c.loop-bound.invariant c.bound-item.result
    c.loop-bound-test.true c.bound-item.is c.in_err-moving.field-0.0 c.in_err-moving.ensures.fault)

pub loop-bound-preserved : goal.loop-bound-preserved
loop-bound-preserved g c =
    made_next (moved_bounds c.args.durations.now) (join c.args.durations.now) c.args.self c.loop-bound.moving c.args.bounds.now c.loop-bound.bound-index c.loop-bound.invariant c.bound-item.result
    c.loop-bound-test.true c.bound-item.is c.in_ok-moving.moving c.in_ok-moving.ensures.made

pub returns-clause-made : goal.returns-clause-made
returns-clause-made g c =
    let made = all g (goal.at.returns-clause-made g c).After-loop-bound in
    IfOk-weaker c.possible_records.result _ _ (λ records is. (made.0, ap (λ l. record c.args.self { records = l }) (is ∙ ap (λ (m : Loosening). m.records) made.1), made.2)) c.possible_records.ensures.value

pub returns-clause-fault : goal.returns-clause-fault
returns-clause-fault g c =
    let made = all g (goal.at.returns-clause-fault g c).After-loop-bound in
    IfErr-weaker c.possible_records.result (IsCauseIn (made_bounds c.loop-bound.moving)) _ (cause_in c.args.self c.loop-bound.moving (moved_bounds c.args.durations.now c.args.bounds.now) made) c.possible_records.ensures.fault
