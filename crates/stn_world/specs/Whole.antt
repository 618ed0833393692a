-- For proofs alone: no public clause cites these words.
-- The replicas of a world, and what all its sites and packets hold together.
use Rattle.std.specs.{Prelude.{◌≡◌, ℕ, ◌≤◌, List, length, map, replicate}, List.range_with_len}
use Rattle.stn_lift.specs.PlanSource.{PlanSource, events_of}
use Rattle.stn_records.specs.{declared.record.Record.Record, Id.{most_sites, SiteCounter}, Content.{Content, addition, withdrawal, replacement, HasItem, IsPart, AllAmend}}
use Rattle.stn_site.specs.Held.{Held}
use Rattle.stn_world.specs.{World.{World, IsRecordOf, most_packets, content_at, packet_at}, Sites.world_of}

-- from 1 to 64 replicas of one plan, in order of site from 1 on
pub record IsSites (source : PlanSource) (replicas : List Held) : Type 0 where
  pub least : 1 ≤ length replicas
  pub most : length replicas ≤ most_sites
  pub numbers : map (λ replica. replica.site) replicas ≡ range_with_len 1 (length replicas)
  pub sources : map (λ replica. replica.source) replicas ≡ replicate (length replicas) source

-- what each site and each packet holds is part of a whole, of which each record is held by the site that made it, each id that is withdrawn
-- or replaced has a record, and each record is of a bound of the plan. So any two of them agree on every id. Each entry belongs to a Plain
-- record that is held with it
pub record IsWhole (world : World) (all : Content) : Type 0 where
  pub sites : (site : ℕ) → IsPart (content_at world site) all
  pub packets : (number : ℕ) → IsPart (packet_at world number) all
  pub own : (id : SiteCounter) (one : Record) → HasItem all (addition id one) → HasItem (content_at world id.site) (addition id one)
  pub made : (id : SiteCounter) → HasItem all (withdrawal id) → (one : Record) × HasItem all (addition id one)
  pub replaced : (id old : SiteCounter) → HasItem all (replacement id old) → (one : Record) × HasItem all (addition old one)
  pub amends : AllAmend all
  pub sites_amend : (site : ℕ) → AllAmend (content_at world site)
  pub packets_amend : (number : ℕ) → AllAmend (packet_at world number)
  pub records : (id : SiteCounter) (one : Record) → HasItem all (addition id one) → IsRecordOf (events_of world.source) one

-- the sites and the packets of the world are parts of a whole
abbrev pub IsCoherent : World → Type 0
IsCoherent world = (all : Content) × IsWhole world all

-- the replicas are a world's, the packets are no more than it keeps, and both are parts of a whole
pub record IsSoundWorld (source : PlanSource) (replicas : List Held) (packets : List Content) : Type 0 where
  pub sites : IsSites source replicas
  pub few : length packets ≤ most_packets
  pub coherent : IsCoherent (world_of source replicas packets)
