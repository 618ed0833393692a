use Rattle.std.proofs.Common.{refl, inl, inr}
use Rattle.stn_shell.proofs.reasons.tell_hints.Goals as goal

pub returns-in-Ok : goal.returns-in-Ok
returns-in-Ok g c = inl (c.in-Ok.hints.items, c.in-Ok.ensures, rw c.deref.ensures.value at c.tell.ensures)

pub returns-in-Err : goal.returns-in-Err
returns-in-Err g c = inr refl
