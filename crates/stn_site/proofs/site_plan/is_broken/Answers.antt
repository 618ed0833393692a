use Rattle.std.proofs.Common.{◌∙◌}
use Rattle.stn_net.specs.Schedule.{times_of}
use Rattle.stn_site.proofs.Broken.{one_broken}
use Rattle.stn_site.proofs.site_plan.is_broken.Goals as goal

pub returns : goal.returns
returns c = c.is_some.ensures ∙ one_broken (times_of c.args.times.now) c.args.bound c.first_broken.result c.requires.origin c.first_broken.ensures.none
