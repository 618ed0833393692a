use Rattle.std.proofs.Common.{◌≡◌, arith}
use Rattle.stn_site.{specs.{Bounds.all_bounds, Report.{is_done, done_events}}, proofs.Rest.flags_are}
use Rattle.stn_replica.proofs.replica.Replica.next.Goals as goal

pub returns : goal.returns
returns g c =
    let source = c.args.self.now.source in
    let state = c.args.self.now.state in
    let exact = c.in_ok-matrix.ensures.exact in
    let is : c.flags_of.result.now ≡ done_events source state =
    flags_are (is_done state) source c.in_ok-matrix.matrix.now.events c.done_flags-done.result c.flags_of.result.now c.in_ok-matrix.ensures.events c.flags_of.ensures.value c.flags_of.ensures.one_each
    (λ event within. rw c.plan.ensures.state at (c.done_flags-done.ensures.done event (omega (arith, c.flags_of.ensures.few)))) in
    (exact.possible, rw is at (c.next.ensures.next (all_bounds source state) exact))
