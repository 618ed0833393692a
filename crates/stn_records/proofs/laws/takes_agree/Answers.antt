use Rattle.std.proofs.{Common.{◌≤◌, arith}, lemmas.Bool.{leb-true, le-leb}}
use Rattle.stn_records.{specs.{JoinLaws.takes_agree, Content.{most_known, is_limited, known_count}, ContentLaws.contents_join}, proofs.KnownIds.known_fewer}
use Rattle.stn_records.proofs.laws.takes_agree.Goals as goal

-- a content with fewer items knows no more ids
pub returns : goal.returns
returns c = takes_agree contents_join is_limited (λ s t below within.
    let fewer = known_fewer s t below in
    let most : known_count t ≤ most_known = leb-true (known_count t) most_known within in
    le-leb (known_count s) most_known (omega arith))
