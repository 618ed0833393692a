use Rattle.std.proofs.{Common.{rules}, lemmas.List.drop_all}
use Rattle.stn_lift.proofs.Shared.{share_after_less, share_after_greater, share_nothing}
use Rattle.stn_lift.proofs.numbers.shares.Goals as goal

pub loop-i-preserved-in-Less : goal.loop-i-preserved-in-Less
loop-i-preserved-in-Less c = search (rules, share_after_less)

pub loop-i-preserved : goal.loop-i-preserved
loop-i-preserved c = search (rules, share_after_greater)

pub returns-else-j-theirs : goal.returns-else-j-theirs
returns-else-j-theirs c = search (rules, drop_all, share_nothing)
