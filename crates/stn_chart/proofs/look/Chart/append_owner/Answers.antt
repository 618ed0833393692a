use Rattle.std.proofs.{Common.{◌≡◌, ◌==◌, false, append_assoc, arith}, lemmas.Bool.Decides.nat_tests}
use Rattle.stn_drawing.proofs.Grown.{written}
use Rattle.stn_chart.specs.{Parts.step_owner, Seen.seen_chart}
use Rattle.stn_chart.proofs.look.Chart.append_owner.Goals as goal

pub returns : goal.returns
returns g c =
    let some : (step_owner (seen_chart c.args.self.now) c.args.step == 0) ≡ false = grind (arith, nat_tests, c.owner_of-owner.ensures, c.if-owner-eq0.false) in
    written c.in_memory.result c.write.result _ _ _ c.in_memory.ensures c.write.ensures.bytes (simp (append_assoc, some, c.owner_of-owner.ensures, c.words_base-base.ensures))
