use Rattle.std.proofs.Common.{rules}
use Rattle.stn_loosen.proofs.making.shows.Goals as goal

pub returns-then-get-span : goal.returns-then-get-span
returns-then-get-span g c = search rules
