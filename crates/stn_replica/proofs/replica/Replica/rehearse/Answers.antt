use Rattle.std.proofs.Common.{rules, ◌≡◌, Err, arith}
use Rattle.stn_site.{specs.{Bounds.all_bounds, Report.{is_done, done_events}}, proofs.Rest.{flags_are, rest_of_plan}}
use Rattle.stn_replica.proofs.replica.Replica.rehearse.{Given.Over, Goals.After-flags_of}
use Rattle.stn_replica.proofs.replica.Replica.rehearse.Goals as goal

done_are : (g : Over) (c : After-flags_of g) → c.flags_of.result.now ≡ done_events c.args.self.now.source c.args.self.now.state
done_are g c =
    flags_are (is_done c.args.self.now.state) c.args.self.now.source c.in-Some.matrix.now.events c.done_flags-done.result c.flags_of.result.now c.in-Some.ensures.events c.flags_of.ensures.value c.flags_of.ensures.one_each
    (λ event within. rw c.plan.ensures.state at (c.done_flags-done.ensures.done event (omega (arith, c.flags_of.ensures.few))))

pub returns-in_err-runs-in-Some-clause-fault : goal.returns-in_err-runs-in-Some-clause-fault
returns-in_err-runs-in-Some-clause-fault g c =
    let exact = c.in-Some.ensures.exact in
    let is : c.from_residual.result ≡ Err c.in_err-runs-in-Some.field-0.0 = search rules in
    rw is (exact.possible, rw (done_are g (goal.at.returns-in_err-runs-in-Some-clause-fault g c).After-flags_of) at (c.in_err-runs-in-Some.ensures.fault (all_bounds c.args.self.now.source c.args.self.now.state) exact))

pub returns-in_ok-runs-in-Some-clause-rest : goal.returns-in_ok-runs-in-Some-clause-rest
returns-in_ok-runs-in-Some-clause-rest g c =
    let source = c.args.self.now.source in
    let state = c.args.self.now.state in
    let exact = c.in-Some.ensures.exact in
    let is = done_are g (goal.at.returns-in_ok-runs-in-Some-clause-rest g c).After-flags_of in
    let said = c.in_ok-runs-in-Some.ensures in
    rest_of_plan source state (done_events source state) c.args.now c.in_ok-runs-in-Some.runs.items (rw c.plan.ensures.state at c.done_flags-done.ensures.fixed)
    (rw is at (said.next (all_bounds source state) exact)) (rw is at (said.once (all_bounds source state) exact)) (said.rising (all_bounds source state) exact)
    (rw is at (said.in_time (all_bounds source state) exact)) (said.possible (all_bounds source state) exact)
