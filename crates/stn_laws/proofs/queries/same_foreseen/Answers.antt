use Rattle.stn_site.proofs.Items.{same_counts}
use Rattle.stn_laws.proofs.queries.Foreseen.{foreseen_same}
use Rattle.stn_laws.proofs.queries.same_foreseen.Goals as goal

pub returns : goal.returns
returns c = λ ours theirs one other p q same plan outlook now choice text last first second.
    foreseen_same outlook choice now one other text last plan (c.counts_same.ensures.live one.state other.state (same_counts ours theirs one other p q same)) first second
