use Rattle.std.{proofs.{Common.{◌≡◌, ◌<◌, ◌∙◌, length, arith}, lemmas.{Int.ints, List.get_or_read}}, specs.Prelude.pos}
use Rattle.stn_net.specs.Schedule.{times_of}
use Rattle.stn_conflict.{specs.Arcs.arc_of, proofs.{Tightness.link_among, Steps.{sum_test, tight_decided}}}
use Rattle.stn_conflict.proofs.levels.is_tight.Goals as goal

pub returns : goal.returns
returns g c =
    let bounds = c.args.graph.now.bounds in
    let far = c.args.far.now in
    let arc = c.arc-arc.result in
    let ends = link_among bounds c.args.link c.requires.far.named c.requires.there in
    let from : c.from.result ≡ (arc_of bounds c.args.link).from = c.from.ensures ∙ c.number.ensures.value ∙ c.arc-arc.ensures.from in
    let to : c.from-2.result ≡ (arc_of bounds c.args.link).to = c.from-2.ensures ∙ c.number-2.ensures.value ∙ c.arc-arc.ensures.to in
    let begin : c.from.result < length far = rw from ends.0 in
    let end : c.from-2.result < length far = rw to ends.1 in
    let decided = tight_decided c.requires.there
    from to c.arc-arc.ensures.weight (c.requires.far.tightest c.from.result begin) (c.requires.far.tightest c.from-2.result end) in
    let test = sum_test c.get-begin.ensures.within c.get.ensures.within c.get-end.ensures.within in
    let begin_is : c.get-begin.result ≡ times_of far c.from.result = c.get-begin.ensures.value ∙ get_or_read far _ _ begin c.index-far-from.is (pos 0) in
    let end_is : c.get-end.result ≡ times_of far c.from-2.result = c.get-end.ensures.value ∙ get_or_read far _ _ end c.index-far-from-2.is (pos 0) in
    (λ t. decided.0 (omega (arith, ints, test.0 t)), λ t. test.1 (omega (arith, ints, decided.1 t)))
