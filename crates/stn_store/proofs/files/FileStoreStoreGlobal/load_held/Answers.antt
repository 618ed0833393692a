use Rattle.std.proofs.{Common.arith, lemmas.Grind.common_steps}
use Rattle.stn_store.proofs.files.FileStoreStoreGlobal.load_held.Goals as goal

pub returns-clause-opened : goal.returns-clause-opened
returns-clause-opened g c = grind (arith, common_steps)
