use Rattle.std.proofs.Common.{rules}
use Rattle.stn_store.proofs.trouble.Trouble.new.Goals as goal

pub returns-clause-name : goal.returns-clause-name
returns-clause-name c = search rules
