use Rattle.std.proofs.{Common.arith, lemmas.Bool.and_parts}
use Rattle.stn_records.proofs.Live.{ours_first, both_first, theirs_first}
use Rattle.stn_records.proofs.live_records.LiveRecordsIterator.next.Goals as goal

pub loop-entry-preserved-in-Equal : goal.loop-entry-preserved-in-Equal
loop-entry-preserved-in-Equal c = grind (arith, and_parts, both_first)

pub loop-entry-preserved : goal.loop-entry-preserved
loop-entry-preserved c = grind (arith, and_parts, theirs_first)

pub returns-in-Less-clause-goes : goal.returns-in-Less-clause-goes
returns-in-Less-clause-goes c = grind (arith, and_parts, ours_first)
