use Rattle.std.proofs.{Common.{rules, ◌≡◌, ℤ, pos, neg_ℤ, ◌-ℤ◌, to_z, of_z, w64, refl, ap, ◌∙◌, arith}, lemmas.{Int.ints, Result.IfOk-weaker}}
use Rattle.stn_time.specs.Time.{horizon}
use Rattle.stn_conflict.specs.{Distances.TellsWithin, Listing.ListedBounds}
use Rattle.stn_loosen.{specs.{Stepped.as_bound, Making.made_bounds}, proofs.{Implied.shown_searched, Sides.{upper_told, lower_told}}}
use Rattle.stn_loosen.proofs.making.Moving.implies.Goals as goal

pub returns-then-shows-clause-value : goal.returns-then-shows-clause-value
returns-then-shows-clause-value g c =
    let named = rw (← c.self.view_is) at c.requires.named in
    let moving = c.self.inside in
    rw (← c.self.view_is) (
      λ is. shown_searched moving.records.items moving.matrix moving.network (as_bound c.args.side.now) c.self.invariant named (c.shows.ensures.0 c.if-shows.true),
      λ implied. refl,
    )

pub returns-then-side-clause-value : goal.returns-then-side-clause-value
returns-then-side-clause-value g c =
    let reach = c.requires.reach in
    let side = as_bound c.args.side.now in
    let listed = ap (λ (l : ListedBounds). l.bounds) c.self.invariant.whole ∙ ap made_bounds c.self.view_is in
    let most : ℤ = to_z w64 (of_z w64 side.hi) in
    let is : to_z w64 (of_z w64 side.hi) ≡ side.hi = omega (arith, ints, reach.hi_least, reach.hi_most) in
    IfOk-weaker c.is_within.result (TellsWithin c.self.inside.network.bounds side.from side.to (to_z w64 (of_z w64 side.hi))) _
    (λ told. upper_told c.args.self.now c.self.inside.network.bounds listed side c.requires.named told most is (omega (arith, ints, c.if-side.true, reach.lo_least, reach.lo_most)))
    c.is_within.ensures.told

pub returns-else-side-clause-value : goal.returns-else-side-clause-value
returns-else-side-clause-value g c =
    let reach = c.requires.reach in
    let side = as_bound c.args.side.now in
    let listed = ap (λ (l : ListedBounds). l.bounds) c.self.invariant.whole ∙ ap made_bounds c.self.view_is in
    let high : side.hi ≡ horizon = search rules in
    let most : ℤ = to_z w64 (of_z w64 (pos 0 -ℤ to_z w64 (of_z w64 side.lo))) in
    let is : to_z w64 (of_z w64 (pos 0 -ℤ to_z w64 (of_z w64 side.lo))) ≡ neg_ℤ side.lo = omega (arith, ints, reach.lo_least, reach.lo_most) in
    IfOk-weaker c.is_within-else-side.result (TellsWithin c.self.inside.network.bounds side.to side.from (to_z w64 (of_z w64 (pos 0 -ℤ to_z w64 (of_z w64 side.lo))))) _
    (λ told. lower_told c.args.self.now c.self.inside.network.bounds listed side c.requires.named told most is high) c.is_within-else-side.ensures.told
