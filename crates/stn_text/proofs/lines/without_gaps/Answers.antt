use Rattle.std.proofs.Common.{rules}
use Rattle.stn_text.proofs.Splits.{words_of-gap}
use Rattle.stn_text.proofs.lines.without_gaps.Goals as goal

pub loop-first-preserved : goal.loop-first-preserved
loop-first-preserved c = search (rules, words_of-gap)
