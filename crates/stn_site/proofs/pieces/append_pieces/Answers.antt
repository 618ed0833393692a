use Rattle.std.proofs.{Common.{rules, arith, sym}, lemmas.{Grind.common_steps, List.append-nil}}
use Rattle.stn_text.proofs.Growing.{lines_grown}
use Rattle.stn_site.proofs.pieces.append_pieces.Goals as goal

pub loop-piece-init : goal.loop-piece-init
loop-piece-init g c = record { text = sym (append-nil c.args.out.now.items); short = search rules }

pub loop-piece-preserved : goal.loop-piece-preserved
loop-piece-preserved g c = record { text = grind (arith, common_steps, lines_grown); short = grind (arith, common_steps) }
