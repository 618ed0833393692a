use Rattle.std.proofs.Common.{ap, ◌∙◌}
use Rattle.stn_records.specs.Content.{Content, is_known}
use Rattle.stn_records.proofs.records.Records.is_known.Goals as goal

pub returns : goal.returns
returns g c = c.is_known.ensures ∙ ap (λ (s : Content). is_known s c.args.id) c.self.view_is
