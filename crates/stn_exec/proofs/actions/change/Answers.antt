use Rattle.std.proofs.lemmas.Result.{err_from_is_err_and}
use Rattle.stn_records.specs.Id.{SiteCounter}
use Rattle.stn_exec.proofs.Effects.{unread, refused_change, made_change}
use Rattle.stn_exec.proofs.actions.change.Goals as goal

pub returns-in_err-asked : goal.returns-in_err-asked
returns-in_err-asked g c =
    let returned = err_from_is_err_and c.from_residual.result c.from_residual.ensures.1 in
    rw returned.1 (unread c.args.world.now c.args.site c.args.asked c.in_err-asked.field-0.0 returned.0 c.in_err-asked.was returned.2)

pub returns-in_err-id : goal.returns-in_err-id
returns-in_err-id g c =
    let returned = err_from_is_err_and c.from_residual-in_err-id.result c.from_residual-in_err-id.ensures.1 in
    rw (returned.1, returned.2) (refused_change SiteCounter c.args.world.now c.change.new.self c.args.site c.args.asked c.in_ok-asked.asked
    c.in_err-id.field-0.0 c.in_ok-asked.was c.in_err-id.ensures.step)

pub returns : goal.returns
returns g c =
    made_change c.args.world.now c.change.new.self c.args.site c.args.asked c.in_ok-asked.asked c.in_ok-id.id c.of.result
    c.in_ok-asked.was c.in_ok-id.ensures.id c.of.ensures c.in_ok-id.ensures.step
