use Rattle.std.proofs.Common.{Ok, refl, ap, inr}
use Rattle.stn_effects.specs.Effects.{stopped, went}
use Rattle.stn_store.proofs.Lacks.{lack_of_memory, passed_on}
use Rattle.stn_logs.proofs.commands.save_made.Goals as goal

pub returns-in_err-text : goal.returns-in_err-text
returns-in_err-text g c = rw (passed_on _ _ c.from_residual.ensures.1) (stopped _ (refl, inr (lack_of_memory g.S.Store.fails _ refl)) refl)

pub returns-in_err-save_new : goal.returns-in_err-save_new
returns-in_err-save_new g c = rw (passed_on _ _ c.from_residual-in_err-save_new.ensures.1) (stopped _ c.in_err-save_new.ensures refl)

pub returns : goal.returns
returns g c = went tt _ c.in_ok-save_new.ensures (refl, ap Ok c.in_ok-text.ensures.items)
