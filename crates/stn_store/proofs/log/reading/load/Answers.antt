use Rattle.std.proofs.Common.{Ok, sym, subst, ◌∙◌}
use Rattle.stn_device.{specs.Counted.counted_device, proofs.Known.not_err}
use Rattle.stn_store.{specs.Log.{Log, IsDecided}, proofs.log.{Answered.loaded, Saved.same_log}}
use Rattle.stn_store.proofs.log.reading.load.Goals as goal

pub returns : goal.returns
returns g c =
    let before = g.R.Read.remaining (counted_device c.args.reader.now) in
    let after = g.R.Read.remaining (counted_device c.load_plan.new.reader) in
    let is = c.in_ok-plan.ensures in
    let made = c.in_ok-of.ensures in
    loaded _ _ _ _ (subst (λ (log : Log). IsDecided before after (Ok log)) (sym (same_log c.in_ok-plan.plan c.in_ok-of.field-0 made.source made.state)) is.meaning)
    is.end (made.site ∙ is.site) (is.kept (not_err _ _)) is.used
