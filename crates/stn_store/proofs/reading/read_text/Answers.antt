use Rattle.std.{proofs.Common.{Err, ap, ◌∙◌, take}, specs.{Prelude.option_map, Io.Take.take_remaining}}
use Rattle.stn_store.proofs.{Lacks.passed_on, Decided.{text_read, text_failed}}
use Rattle.stn_store.proofs.reading.read_text.Goals as goal

pub returns-in_err-read_whole-clause-failed : goal.returns-in_err-read_whole-clause-failed
returns-in_err-read_whole-clause-failed g c =
    let first = ap (take_remaining g.R.Read.remaining) c.new-counted.ensures.device
    ∙ ap (λ inner. option_map (take c.take.result.limit) (g.R.Read.remaining inner)) c.take.ensures.inner in
    rw (passed_on _ _ c.from_residual.ensures.1) (text_failed first c.take.ensures.limit (λ e. c.in_err-read_whole.ensures.bound (ap Err e)))

pub returns-clause-text : goal.returns-clause-text
returns-clause-text g c =
    let first = ap (take_remaining g.R.Read.remaining) c.new-counted.ensures.device
    ∙ ap (λ inner. option_map (take c.take.result.limit) (g.R.Read.remaining inner)) c.take.ensures.inner in
    text_read _ _ _ first c.take.ensures.limit c.in_ok-read_whole.ensures.bytes c.in_ok-read_whole.ensures.end c.in_ok-read_whole.ensures.within
