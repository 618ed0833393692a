use Rattle.std.{proofs.{Common.{◌≡◌, Ok, inl, inr, refl, ap, subst, ◌∙◌}, lemmas.Result.err_from_is_err_and}, specs.Io.KnownBytes.Appends}
use Rattle.stn_device.specs.Bytes.{AppendsPart}
use Rattle.stn_store.{specs.Log.{Log, log_held, log_text, IsLog}, proofs.log.{Saved.same_log, writing.save.{Given.Over, Goals.In_ok-text}}}
use Rattle.stn_store.proofs.log.writing.save.Goals as goal

-- what is written is the log of what the site holds
text_is : (g : Over) (c : In_ok-text g) → c.in_ok-text.text.items ≡ log_text (log_held (g.C.SiteCopy.held c.args.copy.now))
text_is g c = c.in_ok-text.ensures.text ∙ ap log_text (same_log (g.C.SiteCopy.held c.args.copy.now) c.plan.result.now c.plan.ensures.source c.plan.ensures.state)

pub returns-in_err-text : goal.returns-in_err-text
returns-in_err-text g c =
    let p = err_from_is_err_and c.from_residual.result c.from_residual.ensures.1 in
    rw (p.1, p.2) (record { saved = inl (refl, refl); loaded = tt })

pub returns-in_err-write_whole : goal.returns-in_err-write_whole
returns-in_err-write_whole g c =
    let p = err_from_is_err_and c.from_residual-in_err-write_whole.result c.from_residual-in_err-write_whole.ensures.1 in
    let lost = c.in_err-write_whole.ensures in
    let text = c.deref.ensures.value ∙ text_is g (goal.at.returns-in_err-write_whole g c).In_ok-text in
    rw (p.1, p.2) (record { saved = inr (refl, (subst (AppendsPart _ _) text lost.part, lost.failed)); loaded = tt })

pub returns : goal.returns
returns g c =
    let text = c.deref.ensures.value ∙ text_is g (goal.at.returns g c).In_ok-text in
    let same = same_log (g.C.SiteCopy.held c.args.copy.now) c.plan.result.now c.plan.ensures.source c.plan.ensures.state in
    record {
      saved = (subst (Appends _ _) text c.in_ok-write_whole.ensures.written, c.in_ok-write_whole.ensures.kept);
      loaded = subst (λ (log : Log). IsLog (log_text log) (Ok log)) same c.in_ok-text.ensures.loaded;
    }
