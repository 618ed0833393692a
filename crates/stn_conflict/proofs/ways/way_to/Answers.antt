use Rattle.std.{proofs.{Common.{◌≡◌, ◌<◌, ◌∙◌, length, ap, arith}, lemmas.{Int.ints, List.{length-reverse, get_or_read}}}, specs.Prelude.{pos}}
use Rattle.stn_net.specs.Schedule.{times_of}
use Rattle.stn_conflict.proofs.CycleSums.{told_of_way}
use Rattle.stn_conflict.proofs.ways.way_to.Goals as goal

pub returns : goal.returns
returns g c =
    let bounds = c.args.graph.now.bounds in
    let far = c.args.far.now in
    let links = c.in_ok-links.links.items in
    let h = c.requires.far in
    let place : c.from.result ≡ c.args.end = c.from.ensures ∙ c.number.ensures.value in
    let below : c.from.result < length far = rw place c.requires.end in
    let value : c.get.result ≡ times_of far c.args.end = c.get.ensures.value ∙ get_or_read far _ _ below c.index-far-from.is (pos 0) ∙ ap (times_of far) place in
    let (low, high) = c.get.ensures.within in
    rw c.reverse.ensures.items (told_of_way (omega (arith, ints)) (omega (arith, ints), omega (arith, ints))
    (h.tightest c.args.start h.start_named) (h.tightest c.args.end c.requires.end) c.in_ok-links.ensures.way (omega (arith, length-reverse links, c.in_ok-links.ensures.short)))
