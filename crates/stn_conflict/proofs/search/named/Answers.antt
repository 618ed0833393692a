use Rattle.std.{proofs.{Common.{◌≡◌, ◌∷◌, [], arith, ap, length, ◌∙◌}, lemmas.{Int.ints, List.{reverse-append, length-reverse, get_or_read}}}, specs.Prelude.{pos, reverse}}
use Rattle.stn_net.specs.Schedule.{times_of}
use Rattle.stn_conflict.{specs.{declared.links.Link.Link, Arcs.arc_of, Culprit.IsCulprit}, proofs.{CycleSums.cycle_of_way, Tightness.link_among, Relaxing.{among_events, network_before}}}
use Rattle.stn_conflict.proofs.search.named.Goals as goal

pub refused_side-side-requires : goal.refused_side-side-requires
refused_side-side-requires g c =
    let first = c.requires.first in
    record {
      kept = c.requires.kept;
      network = network_before c.args.graph.now.bounds first.past c.requires.begins c.requires.named;
      tables = c.requires.tables;
      there = first.there;
      named = c.requires.named c.args.place _ first.there;
      possible = first.before;
    }

pub returns : goal.returns
returns g c =
    let bounds = c.args.graph.now.bounds in
    let first = c.requires.first in
    let side = c.refused_side-side in
    let link : Link = record { place = c.args.place; side = side.result } in
    let links = c.in_ok-links.links.items in
    let far = side.new.search.far.items in
    let arc = c.arc-arc.ensures in
    let exact = side.ensures.distances in
    let below = (link_among bounds link (among_events bounds side.ensures.tables.far c.requires.named) first.there).0 in
    let place : c.from.result ≡ (arc_of bounds link).from = c.from.ensures ∙ c.number.ensures.value ∙ arc.from in
    let read : c.index.result.now ≡ times_of far (arc_of bounds link).from = get_or_read far _ _ (rw place below) c.index.ensures (pos 0) ∙ ap (times_of far) place in
    let (wl, wh) = c.get.ensures.within in
    let (fl, fh) = c.get-2.ensures.within in
    let weight = c.get.ensures.value ∙ arc.weight in
    let back = c.get-2.ensures.value ∙ read in
    let reversed = c.reverse.ensures.items ∙ ap reverse c.in_ok-push.ensures.items ∙ reverse-append links (link ∷ []) in
    let culprit : IsCulprit bounds link = record { there = first.there; before = first.before; refused = first.refused; side = side.ensures.side } in
    rw reversed (cycle_of_way bounds link (reverse links) _ (times_of far (arc_of bounds link).from) arc.ordered
    (exact.tightest (arc_of bounds link).to exact.start_named) (exact.tightest (arc_of bounds link).from below)
    (culprit, rw (c.before-before.ensures, arc.to, arc.from) at c.in_ok-links.ensures.way) (omega (arith, ints))
    (omega (arith, length-reverse links, c.in_ok-links.ensures.short, ap length c.deref.ensures.value, side.ensures.tables.far))
    (omega (arith, ints)))
