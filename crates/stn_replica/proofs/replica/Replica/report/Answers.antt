use Rattle.std.proofs.Common.{rules}
use Rattle.stn_site.specs.Bounds.{all_bounds}
use Rattle.stn_replica.proofs.replica.Replica.report.Goals as goal

pub report_with-requires : goal.report_with-requires
report_with-requires g c =
    let all = all_bounds c.args.self.now.source c.args.self.now.state in
    let found = c.in_ok-windows-in-Some.ensures all c.in-Some.ensures.exact in
    search rules
