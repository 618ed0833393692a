use Rattle.std.proofs.Common.{refl}
use Rattle.stn_effects.specs.Effects.{stopped, went}
use Rattle.stn_store.proofs.Lacks.{passed_on}
use Rattle.stn_shell.proofs.execution.listen.Goals as goal

pub returns-in_err-print_now-in-Ok : goal.returns-in_err-print_now-in-Ok
returns-in_err-print_now-in-Ok g c = rw (passed_on _ _ c.from_residual.ensures.1) (λ entries unread err. went tt _ refl (c.in_err-print_now-in-Ok.ensures.failed, refl, refl, refl))

pub returns-in_ok-print_now-in-Ok : goal.returns-in_ok-print_now-in-Ok
returns-in_ok-print_now-in-Ok g c = λ entries unread err. went tt _ refl (c.in_ok-print_now-in-Ok.ensures.printed, refl, refl, refl)

pub returns-in-Err : goal.returns-in-Err
returns-in-Err g c = λ entries unread err. stopped _ (refl, c.unusable.ensures) refl
