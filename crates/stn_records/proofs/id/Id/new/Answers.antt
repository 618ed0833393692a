use Rattle.std.proofs.{Common.arith, lemmas.Bool.false≢true}
use Rattle.stn_records.proofs.id.Id.new.Goals as goal

pub returns-else-counter-ge1-clause-within : goal.returns-else-counter-ge1-clause-within
returns-else-counter-ge1-clause-within c = (λ some. absurd (false≢true some), λ least. absurd (omega (arith, least, c.if-counter-ge1.false)))
