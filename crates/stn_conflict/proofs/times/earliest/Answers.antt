use Rattle.std.proofs.{Common.{◌≡◌, neg_ℤ, ◌++◌, length, map, ap, ◌∙◌}, lemmas.List.length-map}
use Rattle.stn_conflict.{specs.{Directions.turned, Distances.AreDistancesFrom}, proofs.{Turned.distances_of_turned, SoonestTimes.earliest_opposite}}
use Rattle.stn_conflict.proofs.times.earliest.Goals as goal

pub returns-in_ok-opposite-in-Some : goal.returns-in_ok-opposite-in-Some
returns-in_ok-opposite-in-Some g c =
    let bounds = c.args.base.now ++ c.args.extra.now in
    let far = c.in-Some.far.items in
    let found : AreDistancesFrom (map turned bounds) c.args.events 0 far = rw (c.in-Some.is, c.origin.ensures) at c.in_ok-far.ensures in
    let times : c.in_ok-opposite-in-Some.field-0.items ≡ map neg_ℤ far = c.in_ok-opposite-in-Some.ensures ∙ ap (map neg_ℤ) c.deref.ensures.value in (
      ap length times ∙ length-map far neg_ℤ ∙ found.long,
      rw times (earliest_opposite (distances_of_turned found)),
    )
