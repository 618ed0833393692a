use Rattle.std.proofs.{Common.{◌≡◌, ◌<◌, ◌++◌, length, take, ap, sym, ◌∙◌, arith}, lemmas.List.length-take}
use Rattle.stn_conflict.{specs.{Arcs.{arc, bound_at}, Directions.faced, Relaxation.Searched}, proofs.Turned.{bound_facing, bound_listed, length_facing}}
use Rattle.stn_conflict.proofs.graph.Graph.arc.Goals as goal

pub returns : goal.returns
returns g c =
    let s = c.self.inside in
    let direction = s.rows.now.direction in
    let all = s.base.now ++ s.extra.now in
    let link = c.args.link in
    let e = c.side_of.ensures in
    let long = length_facing direction (take s.end (s.base.now ++ s.extra.now)) in
    let place : link.place < length (s.base.now ++ s.extra.now) = omega (arith, c.requires, ap (λ (v : Searched). length v.bounds) c.self.view_is, long, length-take s.end (s.base.now ++ s.extra.now)) in
    let is : faced direction c.bound_in-bound.result ≡ bound_at c.args.self.now.bounds link.place =
    ap (faced direction) c.bound_in-bound.ensures ∙ sym (bound_facing direction all place)
    ∙ sym (bound_listed direction all s.end (ap (λ (v : Searched). v.bounds) c.self.view_is) c.requires) in
    record {
      from = e.from ∙ ap (λ b. (arc b link.side).from) is;
      to = e.to ∙ ap (λ b. (arc b link.side).to) is;
      weight = e.weight ∙ ap (λ b. (arc b link.side).weight) is;
      ordered = rw is at e.ordered;
    }
