use Rattle.std.specs.Prelude.{ℤ, pos, ◌+◌, ◌<◌, ◌+ℤ◌, ◌<ℤ◌, ◌≤ℤ◌, List, length, take}
use Rattle.stn_net.specs.{Difference.Difference, Schedule.HasSchedule, Matrix.Tightest.IsTightest}
use Rattle.stn_conflict.specs.{declared.links.{Link.Link, Side.{Side, TheVariants.{Upper, Lower}}}, Arcs.bound_at}

-- upper where in each schedule of the bounds `to` comes more than `hi` after `from`, since `from` comes at most
-- `most` after `to`; else lower
abbrev pub IsRefusedSide : List Difference → Difference → Side → Type 0
IsRefusedSide bounds bound Upper = (most : ℤ) × IsTightest bounds bound.to bound.from most × ((most +ℤ bound.hi) <ℤ pos 0)
IsRefusedSide bounds bound Lower = (most : ℤ) × IsTightest bounds bound.to bound.from most × (pos 0 ≤ℤ (most +ℤ bound.hi))

-- the first bound with which the bounds have no schedule, and the side of it that the bounds before refuse
pub record IsCulprit (bounds : List Difference) (link : Link) : Type 0 where
  pub there : link.place < length bounds
  pub before : HasSchedule (take link.place bounds)
  pub refused : ¬ HasSchedule (take (link.place + 1) bounds)
  pub side : IsRefusedSide (take link.place bounds) (bound_at bounds link.place) link.side
