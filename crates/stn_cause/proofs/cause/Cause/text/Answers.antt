use Rattle.std.proofs.Common.{refl}
use Rattle.stn_cause.proofs.cause.Cause.text.Goals as goal

pub returns-in-Folder : goal.returns-in-Folder
returns-in-Folder c = rw c.in-Folder.is refl
