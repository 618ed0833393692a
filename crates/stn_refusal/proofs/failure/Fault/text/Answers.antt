use Rattle.std.proofs.Common.{refl}
use Rattle.stn_refusal.proofs.failure.Fault.text.Goals as goal

pub returns-in-File : goal.returns-in-File
returns-in-File c = rw c.in-File.is refl
