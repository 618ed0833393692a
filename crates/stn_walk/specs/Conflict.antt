-- The picture of a plan and a state whose bounds have no schedule.
use Rattle.std.specs.Prelude.{◌≡◌, ℕ, List}
use Rattle.stn_lift.specs.PlanSource.{PlanSource, base_bounds}
use Rattle.stn_records.specs.Content.{Content, live_of}
use Rattle.stn_conflict.specs.{declared.links.Link.Link, Arcs.IsNegativeCycle, Named.IsNamedCycle}
use Rattle.stn_site.specs.{Bounds.{all_bounds, live_bounds}, Names.live_ids}
use Rattle.stn_repairs.specs.{declared.repair.Repair.Repair, Repairs.AreRepairs}
use Rattle.stn_walk.specs.Walk.{walk_of, walk_text}

-- the text is the picture of the conflict that the report names, with this title and these names of the steps, and the repairs of its
-- records
pub record IsWalkPicture (title : List ℕ) (names : List (List ℕ)) (source : PlanSource) (state : Content) (text : List ℕ) : Type 0 where
  pub links : List Link
  pub named : IsNamedCycle (all_bounds source state) links
  pub negative : IsNegativeCycle (all_bounds source state) links
  pub repairs : List Repair
  pub are : AreRepairs (base_bounds source) (live_of state) (live_of state) repairs
  pub whole : text ≡ walk_text (walk_of title names (base_bounds source) (live_ids state) (live_bounds state) links repairs)
