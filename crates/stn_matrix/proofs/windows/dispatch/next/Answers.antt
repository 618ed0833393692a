use Rattle.std.proofs.Common.{inl, inr}
use Rattle.stn_net.{specs.Matrix.Table.far_of, proofs.Ends.{latest_of_exact, past_is_overdue}}
use Rattle.stn_matrix.proofs.Coming.{leader_is_first, earliest_is_first}
use Rattle.stn_matrix.proofs.windows.dispatch.next.Goals as goal

pub returns-in-Some-clause-next : goal.returns-in-Some-clause-next
returns-in-Some-clause-next g c = λ bounds exact. past_is_overdue bounds c.args.matrix.now.events (far_of c.args.matrix.now 0) c.args.done.now (latest_of_exact bounds c.args.matrix.now exact) c.requires c.args.now c.in-Some.event (rw c.origin.ensures at c.in-Some.ensures.past)

pub returns-in-Some-first_run-clause-next : goal.returns-in-Some-first_run-clause-next
returns-in-Some-first_run-clause-next g c = λ bounds exact.
    elim c.in-Some-first_run.ensures [
      | inl leader ↦ leader_is_first bounds c.args.matrix.now c.args.done.now c.args.now _ exact c.requires (rw c.origin.ensures at c.in_default.ensures.none) leader
      | inr earliest ↦ earliest_is_first bounds c.args.matrix.now c.args.done.now c.args.now _ exact c.requires earliest.1 earliest.0
    ]
