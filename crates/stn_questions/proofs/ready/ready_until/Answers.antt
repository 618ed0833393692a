use Rattle.std.{proofs.{Common.{◌≡◌, ◌≢◌, ◌<◌, ◌∷◌, ◌++◌, [], pos, None, length, cond, eqb, ap, sym, ◌∙◌, arith, rules}, lemmas.{Bool.{false≢true, Decides.Decides-int_eq}, List.{get_or_read, Elements.All-push, Sorted.{All-permutation, sum_by-IsPermutation}}}}, specs.Ordering.{ord_max, int_cmp}}
use Rattle.stn_net.{specs.{Schedule.times_of, Windows.Dispatch.{IsLeft, AreReadyTimes}}, proofs.Readiness.left_within}
use Rattle.stn_matrix.proofs.Soonest.{ready_until_last, ready_never}
use Rattle.stn_questions.{specs.declared.ready_event.ReadyEvent.ReadyEvent, proofs.{ReadyLists.{HasTimes, pushed_other, sorted_in_order, ready_pushed, ready_kept}, ready.ready_until.Goals.{then-is_left+then-eq+in_ok-push, else-is_left, else-is_left-via-then-is_left+else-eq, else-is_left-via-else-is_left}}}
use Rattle.stn_questions.proofs.ready.ready_until.Goals as goal

pub loop-number-preserved : goal.loop-number-preserved
loop-number-preserved g c =
    let done = c.args.done.now in
    let now = c.args.now in
    let number = c.loop-number.number in
    let event = c.unwrap-event.result in
    let old = c.loop-number.ready.items in
    let before = c.loop-number.invariant in
    let is : event ≡ number = search rules in
    elim c.if-is_left.branch [
      | then-is_left+then-eq+in_ok-push w ↦
          let one : ReadyEvent = record { first = w.max.result; event = event; last = c.args.last } in
          let new : c.if-is_left.ready.items ≡ old ++ one ∷ [] = ap (λ v. v.items) w.ready-is ∙ w.in_ok-push.ensures.items in
          let read : w.index-times-number.result ≡ times_of c.args.times.now number = get_or_read c.args.times.now number _ c.loop-number-test.true w.index-times-number.is (pos 0) in
          let last : times_of c.args.times.now event ≡ c.args.last =
          ap (times_of c.args.times.now) is ∙ sym read ∙ (Decides-int_eq w.index-times-number.result c.args.last).0 (sym w.eq.ensures ∙ w.if-eq.true) in
          let early : w.index-earliest-number.result ≡ times_of c.args.earliest.now event =
          get_or_read c.args.earliest.now number _ (omega (arith, c.loop-number-test.true, c.requires.whole)) w.index-earliest-number.is (pos 0) ∙ ap (times_of c.args.earliest.now) (sym is) in
          let first : w.max.result ≡ ord_max int_cmp (times_of c.args.earliest.now event) now = w.max.ensures ∙ ap (λ time. ord_max int_cmp time now) early in
          let left : IsLeft done event = c.is_left.ensures.0 w.if-is_left.true in
          rw new (record {
            times = λ bounds events latest at in_time. All-push (HasTimes bounds done now) old one (before.times bounds events latest at in_time)
                (ready_until_last bounds events done (times_of c.args.earliest.now) latest (times_of c.args.times.now) c.args.last at event now w.max.result left last in_time first);
            once = λ bounds events latest at in_time. ready_pushed bounds done now old one number is (before.none number (omega arith)) (before.once bounds events latest at in_time);
            none = λ other past. pushed_other old one other (λ same. absurd (omega arith)) ∙ before.none other (omega arith);
          })
      | else-is_left w ↦
          let new : c.if-is_left.ready.items ≡ old = ap (λ v. v.items) w.ready-is in
          rw new (record {
            times = before.times;
            once = λ bounds events latest at in_time.
                let never : AreReadyTimes bounds done now event None =
                elim w.else-is_left.branch [
                  | else-is_left-via-then-is_left+else-eq v ↦
                      let read : v.index-times-number.result ≡ times_of c.args.times.now number = get_or_read c.args.times.now number _ c.loop-number-test.true v.index-times-number.is (pos 0) in
                      let other : times_of c.args.times.now event ≢ c.args.last = λ same.
                      let yes = (Decides-int_eq v.index-times-number.result c.args.last).1 (read ∙ ap (times_of c.args.times.now) (sym is) ∙ same) in
                      let no = sym v.eq.ensures ∙ v.if-eq.false in
                      false≢true (sym no ∙ yes) in
                      ready_never bounds events done (times_of c.args.earliest.now) latest (times_of c.args.times.now) c.args.last at event now other
                  | else-is_left-via-else-is_left v ↦
                      λ time later ready. (let yes = c.is_left.ensures.1 ready.left in let no = v.if-is_left.false in false≢true (cc))
                ] in
                ready_kept bounds done now old number event is never (before.once bounds events latest at in_time);
            none = λ other past. before.none other (omega arith);
          })
    ]

pub returns : goal.returns
returns g c = λ bounds events latest at in_time.
    let before = c.loop-number.ready.items in
    let after = c.sort_unstable.new.self.items in
    let done = c.args.done.now in
    record {
      times = All-permutation (HasTimes bounds done c.args.now) before after c.sort_unstable.ensures.permutation (c.loop-number.invariant.times bounds events latest at in_time);
      once = λ event time later able.
          let within : event < length done = left_within done event able.left in
          sum_by-IsPermutation (λ (one : ReadyEvent). cond (eqb one.event event) 1 0) before after c.sort_unstable.ensures.permutation
          ∙ c.loop-number.invariant.once bounds events latest at in_time event time (omega (arith, c.requires.one_each, c.loop-number-test.false)) later able;
      order = sorted_in_order after c.sort_unstable.ensures.sorted;
    }
