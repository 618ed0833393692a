-- For proofs alone: no public clause cites these words.
-- The walk that the code has.
use Rattle.std.specs.Prelude.{map}
use Rattle.stn_drawing.specs.Seen.{seen_axis}
use Rattle.stn_walk.specs.{declared.walk.Walk.Walk as WalkOfCode, Walk.Walk}

abbrev pub seen_walk : {A : Type 0} → WalkOfCode A → Walk
seen_walk walk = record {
  title = walk.title.now;
  names = map (λ name. name.items) walk.names.now;
  base = walk.base.now;
  ids = walk.ids.now;
  others = walk.others.now;
  links = walk.links.now;
  sums = walk.sums.now;
  repairs = walk.repairs.now;
  axis = seen_axis walk.axis;
}
