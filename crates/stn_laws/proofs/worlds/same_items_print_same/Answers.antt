use Rattle.std.proofs.Common.{refl}
use Rattle.stn_records.specs.ContentLaws.{contents_join}
use Rattle.stn_site.proofs.OneReport.{same_reports}
use Rattle.stn_world.specs.World.{content_at}
use Rattle.stn_laws.proofs.worlds.same_items_print_same.Goals as goal

pub returns : goal.returns
returns c = λ world site other same text last. same_reports c.one_report.ensures world.source world.source _ _ text last refl (contents_join.same (content_at world site) (content_at world other) same)
