use Rattle.std.proofs.{Common.{◌≤◌, ◌++◌, length, take, ap, ◌∙◌, sym, arith}, lemmas.List.{take-take, length-take}}
use Rattle.stn_conflict.{specs.{Directions.facing, Relaxation.Searched}, proofs.Turned.{length_facing, take_facing}}
use Rattle.stn_conflict.proofs.graph.Graph.before.Goals as goal

pub returns : goal.returns
returns g c =
    let s = c.self.inside in
    let rows = s.rows.now in
    let all = s.base.now ++ s.extra.now in
    let long = length_facing rows.direction (take s.end (s.base.now ++ s.extra.now)) in
    let fits : c.args.place ≤ s.end = omega (arith, c.requires, ap (λ (v : Searched). length v.bounds) c.self.view_is, long, length-take s.end (s.base.now ++ s.extra.now)) in
    rw (← c.self.view_is) (ap (λ bounds. record { direction = rows.direction; whole = rows.whole; events = s.events; bounds = bounds })
    (ap (facing rows.direction) (sym (take-take c.args.place s.end all fits)) ∙ take_facing rows.direction c.args.place (take s.end all)))
