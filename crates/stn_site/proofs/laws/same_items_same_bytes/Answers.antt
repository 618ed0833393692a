use Rattle.std.proofs.Common.{sym, ◌∙◌}
use Rattle.stn_site.proofs.OneReport.{same_states}
use Rattle.stn_site.proofs.laws.same_items_same_bytes.Goals as goal

pub returns : goal.returns
returns c = λ source a b ours theirs s t text other same first second.
    same_states source s t text other (c.one_report.ensures source) (sym first ∙ c.states_by_items_alone.ensures a b ours theirs same ∙ second)
