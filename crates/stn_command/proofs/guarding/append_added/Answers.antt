use Rattle.std.proofs.{Common.{◌∙◌, sym, ap, take, arith}, lemmas.List.{append-nil, take_all, take_at}}
use Rattle.stn_text.proofs.Growing.{lines_grown}
use Rattle.stn_command.specs.Guarding.{added_line}
use Rattle.stn_command.proofs.guarding.append_added.Goals as goal

pub loop-id-init : goal.loop-id-init
loop-id-init g c = sym (append-nil c.args.out.now.items)

pub loop-id-preserved : goal.loop-id-preserved
loop-id-preserved g c =
    lines_grown added_line c.args.ids.now c.loop-id.id-index c.id-item.result c.args.out.now.items c.loop-id.out.items c.print.new.out.items
    c.loop-id-test.true c.id-item.is c.loop-id.invariant c.in_default.ensures.printed

pub returns-in-Err-clause-kept : goal.returns-in-Err-clause-kept
returns-in-Err-clause-kept g c =
    c.truncate.ensures.items ∙ ap (take c.len-before.result) (c.in-Err.ensures.kept ∙ c.loop-id.invariant) ∙ take_at c.args.out.now.items _ c.len-before.result (omega arith)

pub returns-clause-printed : goal.returns-clause-printed
returns-clause-printed g c = cc (take_all c.loop-id.id-index c.args.ids.now c.loop-id-test.false)
