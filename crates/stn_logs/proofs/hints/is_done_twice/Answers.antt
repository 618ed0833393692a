use Rattle.std.proofs.Common.{Some, ◌∙◌, sym, ap}
use Rattle.stn_logs.specs.Hints as spec
use Rattle.stn_logs.proofs.hints.is_done_twice.Goals as goal

pub returns-in-Some : goal.returns-in-Some
returns-in-Some g c =
    let state = c.args.records.now in
    c.has_two.ensures ∙ ap (λ event. spec.is_done_twice state (Some event)) c.number.ensures.value
    ∙ ap (spec.is_done_twice state) (sym c.in-Some.is ∙ rw c.as_bytes.ensures.value at c.read_event.ensures)
