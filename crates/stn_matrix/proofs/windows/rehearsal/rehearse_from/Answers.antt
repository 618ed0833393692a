use Rattle.std.{proofs.{Common.{◌≡◌, true, [], ◌∷◌, ◌++◌, drop, length, ◌∙◌, arith, rules}, lemmas.{List.take_at, Grind.common_steps}}, specs.Prelude.slice_set}
use Rattle.stn_matrix.proofs.UnderWay.{under_way_at_first, under_way_further, rehearsal_at_end}
use Rattle.stn_matrix.proofs.windows.rehearsal.rehearse_from.Goals as goal

pub loop-answer-init : goal.loop-answer-init
loop-answer-init g c =
    let items : c.in_ok-finished.finished.items ≡ c.args.done.now = search rules in
    let none : c.new-runs.result.items ≡ [] = search rules in
    record {
      one_each = search rules;
      left = search rules;
      under_way = λ bounds exact. rw (items, none) (under_way_at_first bounds c.args.done.now c.args.now c.copy_from.new.self c.args.first
          (c.copy_from.ensures.exact bounds exact) (c.requires.next bounds exact) c.requires.in_time);
    }

pub loop-answer-preserved : goal.loop-answer-preserved
loop-answer-preserved g c =
    let h = c.loop-answer.invariant in
    let old = c.loop-answer.finished.items in
    let new = c.fix.new.done in
    let event = c.in-Run.event in
    let long : length new ≡ c.loop-answer.finished.len = search rules in
    let pushed : c.push.new.self.items ≡ c.loop-answer.runs.items ++ (c.in-Run.time, event) ∷ [] = c.in_ok-push.ensures.items in
    let e = take_at new (drop (length new) old) c.loop-answer.finished.len long in
    let set_is : new ≡ slice_set old event true = search rules in
    let given : c.deref.result.now ≡ new = c.deref.ensures.value ∙ e in
    rw e (record {
      one_each = omega (arith, long, h.one_each, c.fix.ensures.events, c.loop-answer.finished.ok.0);
      left = rw given at c.next-answer.ensures.left;
      under_way = λ bounds exact.
          let next = rw (given, set_is) at c.next-answer.ensures.next in
          let fix = c.fix.ensures.exact in
          let under = rw c.in-Run.is at (h.under_way bounds exact) in
          rw (set_is, pushed)
          (under_way_further bounds c.args.done.now c.args.now c.loop-answer.runs.items c.loop-answer.tightened c.fix.new.matrix old c.in-Run.time event c.next-answer.result under fix next);
    })

pub returns : goal.returns
returns g c = λ bounds exact.
    rehearsal_at_end bounds c.args.done.now c.args.now c.loop-answer.runs.items c.loop-answer.tightened c.loop-answer.finished.items c.loop-answer.answer
    (c.loop-answer.invariant.under_way bounds exact) c.in_default.not-Run

pub loop-answer-smaller : goal.loop-answer-smaller
loop-answer-smaller g c = grind (arith, common_steps)
