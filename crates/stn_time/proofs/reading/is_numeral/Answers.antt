use Rattle.std.proofs.Common.{rules}
use Rattle.stn_time.proofs.Sums.{is_numeral-prefix}
use Rattle.stn_time.proofs.reading.is_numeral.Goals as goal

pub returns-then-not-is_empty : goal.returns-then-not-is_empty
returns-then-not-is_empty c = search (rules, is_numeral-prefix)
