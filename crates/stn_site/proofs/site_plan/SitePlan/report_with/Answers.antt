use Rattle.std.proofs.{lemmas.{Grind.common_steps, Result.on_ok_weaker}, Common.arith}
use Rattle.stn_site.proofs.Printing.{appended_ok, appended_part, kept_err}
use Rattle.stn_site.proofs.site_plan.SitePlan.report_with.Goals as goal

pub returns : goal.returns
returns g c = grind (arith, common_steps, appended_part, on_ok_weaker, appended_ok, kept_err)
