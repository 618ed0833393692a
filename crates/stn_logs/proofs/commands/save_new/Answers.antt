use Rattle.stn_logs.proofs.Made.{save_ended}
use Rattle.stn_logs.proofs.commands.save_new.Goals as goal

pub returns : goal.returns
returns g c =
    let named = c.in_ok-held.ensures.named in
    save_ended c.save_new.result _ _ _ _ _ (rw named at c.save_new.ensures.free) (rw named at c.save_new.ensures.saved) c.save_new.ensures.kept
    (rw named at c.save_new.ensures.failed)
