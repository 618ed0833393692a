-- Bounds that have no schedule have a named cycle.
use Rattle.std.{proofs.{Common.{rules, ℕ, List, ◌∷◌, take}, lemmas.Int.by_lt_z}, specs.Prelude.{ℤ, All}}
use Rattle.stn_net.specs.Difference.{Difference}
use Rattle.stn_conflict.{specs.{declared.links.{Link.Link, Side.{Side, TheVariants.{Upper, Lower}}}, Arcs.{arc_of, bound_at, IsNegativeCycle}, Culprit.{IsCulprit, IsRefusedSide}, Named.IsNamedCycle}, proofs.CycleSums.named_negative}
use Rattle.stn_laws.proofs.questions.{Found.{AreFound, IsInOrder, IsFirstRefused, tightest_found}, Levels.{ends_within, some_way}}

-- a bound has a side that is refused
some_side : {bounds : List Difference} {events : ℕ} {far : ℕ → ℕ → ℤ} (bound : Difference) → AreFound bounds events far → IsInOrder events bound → (side : Side) × IsRefusedSide bounds bound side
some_side {far = far} bound found is =
    let back = tightest_found found _ _ is.named.to is.named.from in
    by_lt_z _ _
    (λ below. (Upper, (far bound.to bound.from, back, below)))
    (λ above. (Lower, (far bound.to bound.from, back, above)))

-- the first refused bound is the culprit of a named cycle
pub some_cycle : {bounds : List Difference} {events place : ℕ} {far : ℕ → ℕ → ℤ} → IsFirstRefused bounds events place far → All (IsInOrder events) bounds
    → (links : List Link) × IsNamedCycle bounds links × IsNegativeCycle bounds links
some_cycle {bounds} {events} {place} first each =
    let before = take place bounds in
    let bound = bound_at bounds place in
    let one = each place _ first.there in
    let (side, refused) = some_side bound first.before one in
    let link : Link = record { place = place; side = side } in
    let (from, to) = ends_within events bound side one.named in
    let (links, way) = some_way first.before (arc_of bounds link).to to (arc_of bounds link).from from in
    let culprit : IsCulprit bounds link = search rules in
    let named : IsNamedCycle bounds (link ∷ links) = (culprit, way) in (
      link ∷ links,
      named,
      named_negative bounds link links _ _ one.ordered
          (tightest_found first.before _ _ to to)
          (tightest_found first.before _ _ to from) named,
    )
