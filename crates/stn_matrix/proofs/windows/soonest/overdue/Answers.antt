use Rattle.std.proofs.{Common.{◌≡◌, pos, ◌<ℤ◌, sym, ◌∙◌, subst, inl, inr, arith, rules}, lemmas.{Int.ints, Bool.cases_lt, List.get_or_read}}
use Rattle.stn_net.{specs.{Schedule.times_of, Windows.Leading.IsFirstPast}, proofs.{Readiness.left_within, Ends.{past_is_overdue, none_past_waits}}}
use Rattle.stn_matrix.proofs.windows.soonest.overdue.Goals as goal

pub returns-then-lt : goal.returns-then-lt
returns-then-lt c = λ bounds events long named latest.
    let number = c.loop-number.number in
    let is : c.unwrap-event.result ≡ number = search rules in
    let at : c.index-latest-number.result ≡ times_of c.args.latest.now number = get_or_read c.args.latest.now number _ c.loop-number-test.true c.index-latest-number.is (pos 0) in
    let before : c.index-latest-number.result <ℤ c.args.now = (let lt = sym c.lt.ensures ∙ c.if-lt.true in grind (arith, ints)) in
    let past : IsFirstPast (times_of c.args.latest.now) c.args.done.now c.args.now c.unwrap-event.result = record {
      left = c.is_left.ensures.0 c.if-is_left.true;
      past = rw is (subst (λ time. time <ℤ c.args.now) at before);
      first = λ other left late. elim (cases_lt other number) [
        | inl below ↦ absurd (omega (arith, ints, c.loop-number.invariant other below left))
        | inr after ↦ omega arith
      ];
    } in
    past_is_overdue bounds events (times_of c.args.latest.now) c.args.done.now latest (c.requires.one_each ∙ long) c.args.now c.unwrap-event.result past

pub returns : goal.returns
returns c = λ bounds events long named latest.
    none_past_waits bounds events (times_of c.args.latest.now) c.args.done.now latest (c.requires.one_each ∙ long) c.args.now named
    (λ event left. c.loop-number.invariant event (omega (arith, c.loop-number-test.false, c.requires.one_each, left_within c.args.done.now event left)) left)
