use Rattle.std.proofs.Common.{subst}
use Rattle.stn_lift.specs.PlanSource.{PlanSource}
use Rattle.stn_site.proofs.Items.{same_counts}
use Rattle.stn_picture.{specs.Picture.IsPicture, proofs.SamePicture.counted_picture}
use Rattle.stn_picture.proofs.laws.same_pictures.Goals as goal

pub returns : goal.returns
returns c = λ ours theirs one other p q same plan look names text last first second.
    c.one_picture.ensures look names other.source other.state text last
    (counted_picture other.source one.state other.state (c.counts_same.ensures.live one.state other.state (same_counts ours theirs one other p q same)) look names text
    (subst (λ (source : PlanSource). IsPicture look names source one.state text) plan first)) second
