use Rattle.std.proofs.{Common.{◌≡◌, ◌+◌, ◌-◌, length, sym, ◌∙◌, arith}, lemmas.Grind.common_steps}
use Rattle.stn_exec.proofs.{Blocks.{some_left, sought_on, sought_end, sought_none}, Scripts.lines_of-none}
use Rattle.stn_exec.proofs.heading.find_end.Goals as goal

pub returns-then-is_end-clause-block : goal.returns-then-is_end-clause-block
returns-then-is_end-clause-block c =
    let l = c.loop-left in
    let some = some_left (length l.left.now) (sym c.is_empty.ensures ∙ c.loop-left-test.true) in
    let counted : (length c.args.text.now - length l.left.now) + length l.left.now ≡ length c.args.text.now = omega (arith, l.invariant.shorter) in
    sought_end c.args.number c.args.text.now l.at l.left.now c.first_line.result.0.now c.first_line.result.1.now _ l.invariant.sought some
    c.first_line.ensures.lines (sym c.is_end.ensures ∙ c.if-is_end.true) counted

pub loop-left-preserved : goal.loop-left-preserved
loop-left-preserved c =
    let l = c.loop-left in
    let some = some_left (length l.left.now) (sym c.is_empty.ensures ∙ c.loop-left-test.true) in
    record {
      sought = sought_on c.args.number c.args.text.now l.at l.left.now c.first_line.result.0.now c.first_line.result.1.now l.invariant.sought some
          c.first_line.ensures.lines c.first_line.ensures.bytes (sym c.is_end.ensures ∙ c.if-is_end.false);
      shorter = omega (arith, l.invariant.shorter, c.first_line.ensures.shorter);
      within = omega (arith, l.invariant.within, c.first_line.ensures.shorter);
    }

pub returns-clause-block : goal.returns-clause-block
returns-clause-block c =
    sought_none c.args.number c.args.text.now c.loop-left.at c.loop-left.left.now c.loop-left.invariant.sought
    (lines_of-none c.loop-left.left.now (grind (arith, common_steps)))
