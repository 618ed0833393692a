use Rattle.std.proofs.{Common.{◌≡◌, ◌∷◌, ◌++◌, [], pos, ap, ◌∙◌, arith, rules}, lemmas.{Bool.false≢true, List.get_or_read}}
use Rattle.stn_net.specs.{Schedule.times_of, Windows.Dispatch.IsLeft}
use Rattle.stn_matrix.proofs.{Soonest.{run_pushed, run_kept, runs_sorted, soonest_is_rehearsal}, windows.soonest.soonest_runs.Goals.{then-is_left+in_ok-push, else-is_left}}
use Rattle.stn_matrix.proofs.windows.soonest.soonest_runs.Goals as goal

pub loop-number-preserved : goal.loop-number-preserved
loop-number-preserved g c =
    let times = times_of c.args.times.now in
    let done = c.args.done.now in
    let number = c.loop-number.number in
    let event = c.unwrap-event.result in
    let is : event ≡ number = search rules in
    elim c.if-is_left.branch [
      | then-is_left+in_ok-push w ↦
          let at : w.index-times-number.result ≡ times number = get_or_read c.args.times.now number _ c.loop-number-test.true w.index-times-number.is (pos 0) in
          let new : c.if-is_left.runs.items ≡ c.loop-number.runs.items ++ (w.index-times-number.result, event) ∷ [] = ap (λ v. v.items) w.runs-is ∙ w.in_ok-push.ensures.items in
          rw new (run_pushed times done number event w.index-times-number.result c.loop-number.runs.items is at (c.is_left.ensures.0 w.if-is_left.true) c.loop-number.invariant)
      | else-is_left w ↦
          let new : c.if-is_left.runs.items ≡ c.loop-number.runs.items = ap (λ v. v.items) w.runs-is in
          let not_left : ¬ IsLeft done event = λ left. let yes = c.is_left.ensures.1 left in let not = w.if-is_left.false in false≢true (cc) in
          rw new (run_kept times done number event c.loop-number.runs.items is not_left c.loop-number.invariant)
    ]

pub returns : goal.returns
returns g c = λ bounds now soonest.
    let times = times_of c.args.times.now in
    let done = c.args.done.now in
    soonest_is_rehearsal c.sort_unstable.new.self.items bounds done now times soonest
    (runs_sorted times done c.loop-number.number c.loop-number.runs.items c.sort_unstable.new.self.items (omega (arith, c.loop-number-test.false, c.requires.one_each))
    c.loop-number.invariant c.sort_unstable.ensures.permutation c.sort_unstable.ensures.sorted)
