-- The replicas of a world.
use Rattle.std.specs.Prelude.{List, map}
use Rattle.stn_lift.specs.PlanSource.{PlanSource}
use Rattle.stn_records.specs.Content.{Content}
use Rattle.stn_site.specs.Held.{Held}
use Rattle.stn_world.specs.World.{World}

-- what the replicas hold, in order of site
abbrev pub site_contents : List Held → List Content
site_contents replicas = map (λ replica. replica.state) replicas

-- the world of these replicas and packets
abbrev pub world_of : PlanSource → List Held → List Content → World
world_of source replicas packets = record { source = source; sites = site_contents replicas; packets = packets }
