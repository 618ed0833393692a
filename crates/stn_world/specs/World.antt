-- A plan at several sites, as a value, and its changes.
use Rattle.std.specs.{Prelude.{ℕ, ◌-◌, ◌≤◌, Bool, ◌&&◌, nat_le, List, [], ◌∷◌, ◌++◌, length, slice_index_or, slice_set, replicate, refl}, Coded.{Coded, code_by, coded×, coded_list}}
use Rattle.stn_net.specs.Difference.{IsBoundWithin}
use Rattle.stn_lift.specs.PlanSource.{PlanSource, coded_source}
use Rattle.stn_records.specs.{Id.SiteCounter, Record.IsProperRecord, declared.record.Record.Record, Content.{Content, coded_content, no_content, with_record, with_tombstone, with_amendment, joined_contents}}
use Rattle.stn_site.specs.{Held.{Held, next_id}, Calls.{Accepted, added, amended, withdrew, took}}

-- a program keeps at most so many packets
abbrev pub most_packets : ℕ
most_packets = 256

-- what the plan is made from, what each site holds, from site 1 on, and what each packet holds, from packet 1 on
pub record World : Type 0 where
  pub source : PlanSource
  pub sites : List Content
  pub packets : List Content

abbrev pub coded_world : Coded World
coded_world = code_by (PlanSource × (List Content × List Content)) (coded× coded_source (coded× (coded_list coded_content) (coded_list coded_content)))
    (λ w. (w.source, (w.sites, w.packets))) (λ p. record { source = p.0; sites = p.1.0; packets = p.1.1 }) (λ _. refl)

-- the world has the site
pub record HasSite (world : World) (site : ℕ) : Type 0 where
  pub least : 1 ≤ site
  pub most : site ≤ length world.sites

-- the test of it
abbrev pub has_site : World → ℕ → Bool
has_site world site = nat_le 1 site && nat_le site (length world.sites)

-- the world has the packet
pub record HasPacket (world : World) (number : ℕ) : Type 0 where
  pub least : 1 ≤ number
  pub most : number ≤ length world.packets

-- the test of it
abbrev pub has_packet : World → ℕ → Bool
has_packet world number = nat_le 1 number && nat_le number (length world.packets)

-- no site holds anything, and nothing was sent
abbrev pub opening_world : PlanSource → ℕ → World
opening_world source sites = record { source = source; sites = replicate sites no_content; packets = [] }

-- what a site holds
abbrev pub content_at : World → ℕ → Content
content_at world site = slice_index_or world.sites (site - 1) no_content

-- what a packet holds
abbrev pub packet_at : World → ℕ → Content
packet_at world number = slice_index_or world.packets (number - 1) no_content

-- a site's replica, whatever work it has done
abbrev pub held_at : World → ℕ → Held
held_at world site = record { site = site; source = world.source; state = content_at world site; steps = 0 }

-- the id of a site's next record
abbrev pub next_id_at : World → ℕ → SiteCounter
next_id_at world site = next_id (held_at world site)

-- the record is of a bound of a plan with so many events beside the origin, and one that says that an event was executed fixes its time
pub record IsRecordOf (events : ℕ) (one : Record) : Type 0 where
  pub bound : IsBoundWithin events one.bound
  pub proper : IsProperRecord one

-- the world where one site holds something else
abbrev pub with_content : World → ℕ → Content → World
with_content world site content = record world { sites = slice_set world.sites (site - 1) content }

-- what an accepted call leaves of what a site holds
abbrev pub content_after : Content → Accepted → Content
content_after content (added id one) = with_record content id one
content_after content (amended id old bound) = with_amendment content id old bound
content_after content (withdrew id) = with_tombstone content id
content_after content (took other) = joined_contents content other

-- the world where a site has accepted a call
abbrev pub with_call : World → ℕ → Accepted → World
with_call world site call = with_content world site (content_after (content_at world site) call)

-- a site takes in all that another holds
abbrev pub merge : World → ℕ → ℕ → World
merge world site other = with_call world site (took (content_at world other))

-- a packet is sent, and stays for good
abbrev pub send : World → Content → World
send world part = record world { packets = world.packets ++ part ∷ [] }

-- a site takes in all that a packet holds
abbrev pub deliver : World → ℕ → ℕ → World
deliver world site number = with_call world site (took (packet_at world number))
