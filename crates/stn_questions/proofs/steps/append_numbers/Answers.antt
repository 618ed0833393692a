use Rattle.std.proofs.Common.{◌+◌, add-one, arith, decimal}
use Rattle.stn_site.specs.Lines.{line}
use Rattle.stn_text.proofs.Growing.{range_grown}
use Rattle.stn_questions.proofs.steps.append_numbers.Goals as goal

pub loop-before-preserved : goal.loop-before-preserved
loop-before-preserved g c =
    let before = c.loop-before.before in
    range_grown (λ number. line (decimal number)) 1 before (before + 1) (before + 1) c.args.out.now.items c.loop-before.out.items c.append_pieces.new.out.items
    (omega arith) (add-one before) c.loop-before.invariant
    c.in_ok-append_pieces.ensures.text
