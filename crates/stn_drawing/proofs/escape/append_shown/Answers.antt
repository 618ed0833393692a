use Rattle.std.proofs.{Common.{◌++◌, ap, ◌∙◌}, lemmas.List.get_or_default}
use Rattle.stn_text.proofs.Growing.{lines_grown}
use Rattle.stn_drawing.specs.Escape.{escaped}
use Rattle.stn_drawing.proofs.escape.append_shown.Goals as goal

pub loop-byte-preserved : goal.loop-byte-preserved
loop-byte-preserved g c =
    lines_grown escaped c.args.text.now c.loop-byte.byte-index _ _ _ _ c.loop-byte-test.true (get_or_default _ _ 0 _ c.loop-byte-test.true) c.loop-byte.invariant
    (c.in_ok-extend_from_slice.ensures.items ∙ ap (λ more. c.loop-byte.out.items ++ more) c.escaped.ensures)
