use Rattle.std.proofs.{Common.rules, lemmas.List.take_at}
use Rattle.stn_loosen.{proofs.ThreeParts.durations_end}
use Rattle.stn_loosen.proofs.parts.durations_of.Goals as goal

pub returns-clause-value : goal.returns-clause-value
returns-clause-value g c = search (rules, take_at, durations_end)
