use Rattle.std.proofs.Common.{rules}
use Rattle.stn_world.proofs.world.first_of.Goals as goal

pub returns-else-sites-ge1-clause-refused : goal.returns-else-sites-ge1-clause-refused
returns-else-sites-ge1-clause-refused c = search rules
