use Rattle.std.proofs.Common.{rules}
use Rattle.stn_matrix.proofs.Rehearsals.{rehearsed_schedule, rehearsed_rising, rehearsed_in_time, rehearsed_once, overdue_cannot_wait, want_of_memory}
use Rattle.stn_matrix.proofs.windows.rehearsal.rehearse.Goals as goal

pub returns-in-Overdue-clause-fault : goal.returns-in-Overdue-clause-fault
returns-in-Overdue-clause-fault g c = λ bounds exact.
    let overdue = c.in-Overdue.ensures.next bounds exact in
    (overdue, overdue_cannot_wait bounds c.args.done.now c.args.now c.in-Overdue.event overdue)

pub returns-in_err-runs-clause-fault : goal.returns-in_err-runs-clause-fault
returns-in_err-runs-clause-fault g c =
    want_of_memory c.from_residual.result c.args.matrix.now c.args.done.now c.args.now c.next-first.result (search rules) c.next-first.ensures.next c.in_default.not-Overdue

pub returns : goal.returns
returns g c =
    let runs = c.in_ok-runs.runs.items in
    let rehearsal = c.in_ok-runs.ensures in
    record {
      next = rehearsal;
      possible = λ bounds exact. rehearsed_schedule runs bounds c.args.done.now c.args.now exact.possible (rehearsal bounds exact);
      once = λ bounds exact. rehearsed_once runs bounds c.args.done.now c.args.now (rehearsal bounds exact);
      rising = λ bounds exact. rehearsed_rising runs bounds c.args.done.now c.args.now (rehearsal bounds exact);
      in_time = λ bounds exact. rehearsed_in_time runs bounds c.args.done.now c.args.now exact.possible (rehearsal bounds exact);
      fault = tt;
    }
