use Rattle.std.proofs.Common.{◌∙◌, ◌++◌, ap}
use Rattle.stn_cause.specs.Cause.{trouble_text}
use Rattle.stn_reasons.specs.Reasons.{stream_text}
use Rattle.stn_reasons.proofs.reason.text_of_trouble.Goals.{in-None+in_ok-append_stream-in-None, in-Some+in_ok-append_trouble-in-Some}
use Rattle.stn_reasons.proofs.reason.text_of_trouble.Goals as goal

pub returns : goal.returns
returns g c = elim c.match-trouble.branch [
  | in-None+in_ok-append_stream-in-None w ↦
      rw w.in-None.is (ap (λ text. text.items) w.text-is ∙ w.in_ok-append_stream-in-None.ensures
      ∙ ap (λ items. items ++ stream_text c.args.line.now c.args.fault) c.new-text.ensures.items)
  | in-Some+in_ok-append_trouble-in-Some w ↦
      rw w.in-Some.is (ap (λ text. text.items) w.text-is ∙ w.in_ok-append_trouble-in-Some.ensures.told
      ∙ ap (λ items. items ++ trouble_text w.as_str.result.now w.in-Some.trouble.cause) c.new-text.ensures.items
      ∙ ap (λ name. trouble_text name w.in-Some.trouble.cause) w.as_str.ensures.value)
]
