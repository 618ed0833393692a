use Rattle.stn_site.proofs.OneReport.{one_report}
use Rattle.stn_site.proofs.laws.one_report.Goals as goal

pub returns : goal.returns
returns c = one_report c.one_named_cycle.ensures
