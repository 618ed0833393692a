use Rattle.std.proofs.Common.{rules}
use Rattle.stn_store.proofs.trouble.named.Goals as goal

pub returns-in-Err-clause-failure : goal.returns-in-Err-clause-failure
returns-in-Err-clause-failure g c = search rules
