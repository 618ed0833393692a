use Rattle.std.proofs.{Common.arith, lemmas.{Grind.common_steps, Int.to_z-of_z}}
use Rattle.stn_site.proofs.Lengths.{event_length, short_number, sum_length, time_length}
use Rattle.stn_site.proofs.pieces.append_piece.Goals as goal

pub returns-in-Number-clause-text : goal.returns-in-Number-clause-text
returns-in-Number-clause-text g c = rw c.in-Number.is c.append_decimal.ensures.appended

pub returns-in-Number-clause-short : goal.returns-in-Number-clause-short
returns-in-Number-clause-short g c = grind (arith, common_steps, short_number)

pub returns-in-Event-clause-short : goal.returns-in-Event-clause-short
returns-in-Event-clause-short g c = grind (arith, common_steps, event_length)

pub returns-in-Time-clause-short : goal.returns-in-Time-clause-short
returns-in-Time-clause-short g c = grind (arith, common_steps, time_length)

pub returns-in-Sum-clause-short : goal.returns-in-Sum-clause-short
returns-in-Sum-clause-short g c = grind (arith, common_steps, to_z-of_z, sum_length)
