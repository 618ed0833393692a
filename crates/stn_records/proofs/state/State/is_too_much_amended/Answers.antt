use Rattle.std.proofs.Common.{◌∙◌}
use Rattle.stn_records.proofs.Amending.{too_much_told}
use Rattle.stn_records.proofs.state.State.is_too_much_amended.Goals as goal

pub returns : goal.returns
returns g c =
    c.knows_more_than.ensures
    ∙ too_much_told c.args.self.now c.args.id c.args.old c.args.bound c.requires.apart c.requires.agrees c.newly_known.result c.newly_known-2.result c.newly_known.ensures.count c.newly_known-2.ensures.count c.newly_known.ensures.most c.newly_known-2.ensures.most
