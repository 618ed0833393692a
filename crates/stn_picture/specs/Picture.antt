-- The picture of a plan as SVG.
use Rattle.std.specs.Prelude.{◌⊎◌, ℕ, List}
use Rattle.stn_lift.specs.PlanSource.{PlanSource}
use Rattle.stn_records.specs.Content.{Content}
use Rattle.stn_chart.specs.{Chart.Look, Drawn.IsPlanPicture}
use Rattle.stn_walk.specs.Conflict.{IsWalkPicture}

-- the text is the picture of a plan and a state, drawn so, with these names of the steps: the chart of bounds that have a schedule, or the
-- walk round a conflict
abbrev pub IsPicture : Look → List (List ℕ) → PlanSource → Content → List ℕ → Type 0
IsPicture look names source state text = IsPlanPicture look names source state text ⊎ IsWalkPicture look.title names source state text
