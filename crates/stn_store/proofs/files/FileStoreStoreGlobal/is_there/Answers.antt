use Rattle.std.proofs.Common.{[], Some, refl}
use Rattle.stn_store.proofs.files.FileStoreStoreGlobal.is_there.Goals as goal

pub returns-in-Ok-clause-found : goal.returns-in-Ok-clause-found
returns-in-Ok-clause-found g c = (Some [], tt, refl)
