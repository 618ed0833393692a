use Rattle.std.proofs.Common.{◌<◌, ◌^◌, sym, ◌∙◌, arith}
use Rattle.stn_records.proofs.Dots.{decimal_no_dot, split_once, text_split}
use Rattle.stn_records.proofs.id.Id.read.Goals as goal

pub returns-in-Some-clause-all : goal.returns-in-Some-clause-all
returns-in-Some-clause-all c id sound is =
    let small : id.site < 2 ^ 64 = omega arith in
    let whole = sym c.in-Some.ensures.parts.parts ∙ (is ∙ text_split id) in
    let both = split_once _ _ _ _ c.in-Some.ensures.parts.first (decimal_no_dot id.site small) whole in
    c.read_numbers.ensures.all id sound both.0 both.1
