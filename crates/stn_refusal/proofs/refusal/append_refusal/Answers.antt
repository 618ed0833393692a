use Rattle.std.proofs.{Common.{◌≡◌, ◌++◌, arith}, lemmas.Grind.{common_steps}}
use Rattle.stn_refusal.specs.Printed.{place_text}
use Rattle.stn_refusal.proofs.refusal.append_refusal.Goals as goal

pub returns-clause-printed : goal.returns-clause-printed
returns-clause-printed g c =
    let placed : c.append_place.new.out.items ≡ c.append_decimal.new.out.items ++ place_text c.args.refusal.place = c.in_ok-append_place.ensures.printed in
    grind (arith, common_steps)
