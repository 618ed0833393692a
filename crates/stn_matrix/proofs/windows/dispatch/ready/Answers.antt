use Rattle.std.{proofs.{Common.{rules, ◌≡◌, false, sym, ◌∙◌}, lemmas.Bool.false≢true}, specs.Prelude.is_none}
use Rattle.stn_net.{proofs.Readiness.{ready_now, ready_can_lead, ready_none_past}, specs.Matrix.Table.far_of}
use Rattle.stn_matrix.proofs.Coming.{past_told}
use Rattle.stn_matrix.proofs.windows.dispatch.ready.Goals as goal

pub returns-then-is_none : goal.returns-then-is_none
returns-then-is_none g c = λ bounds exact.
    let (none, told) = past_told _ c.args.done.now c.args.time c.first_before.result c.first_before.ensures.past c.first_before.ensures.none in (
      (λ leads. ready_now bounds c.args.matrix.now c.args.done.now c.args.event c.args.time exact c.requires.one_each (c.can_lead.ensures.0 leads) (rw c.origin.ensures at (none (search rules)))),
      (λ ready. c.can_lead.ensures.1 (ready_can_lead bounds c.args.matrix.now c.args.done.now c.args.event c.args.time exact c.requires.one_each ready)),
    )

pub returns-else-is_none : goal.returns-else-is_none
returns-else-is_none g c = λ bounds exact.
    let (none, told) = past_told (far_of c.args.matrix.now c.origin.result) c.args.done.now c.args.time c.first_before.result c.first_before.ensures.past c.first_before.ensures.none in
    let some : is_none c.first_before.result ≡ false = search rules in (
      (λ yes. let not = c.if-is_none.false in absurd (false≢true (cc))),
      (λ ready. absurd (false≢true (sym some ∙ told (rw c.origin.ensures (ready_none_past bounds c.args.matrix.now c.args.done.now c.args.event c.args.time exact c.requires.one_each ready))))),
    )
