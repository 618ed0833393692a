-- Worlds whose sites hold a guard, and act within what is their own.
use Rattle.std.specs.Prelude.{◌≡◌, ℕ, true, ◌⊎◌, List, [], ◌∷◌, ⊤}
use Rattle.stn_net.specs.{Difference.Difference, Schedule.HasSchedule}
use Rattle.stn_records.specs.{Id.SiteCounter, Content.{Content, Item, addition, withdrawal, replacement, HasItem, IsPart}}
use Rattle.stn_site.specs.{Bounds.all_bounds, Calls.Brought, Change.change_call, declared.change.Change.TheVariants.Add}
use Rattle.stn_guard.specs.{Owners.{is_owned, own_bounds}, Guard.Guards}
use Rattle.stn_world.specs.{World.{World, HasSite, content_at, packet_at}, Steps.{Step, changed, merged, sent, delivered, IsAccepted, after}}

-- the item is a record of a bound that is the own of the site that made it, one of the world
abbrev pub IsOwnItem : (ℕ → ℕ) → World → Item → Type 0
IsOwnItem owner world (addition id made) = HasSite world id.site × (is_owned owner id.site made.bound ≡ true)
IsOwnItem owner world (withdrawal id) = ⊥
IsOwnItem owner world (replacement id old) = ⊥

-- each item of the content is one of the state or such a record
abbrev pub IsBesideOwn : (ℕ → ℕ) → World → Content → Content → Type 0
IsBesideOwn owner world state content = (item : Item) → HasItem content item → HasItem state item ⊎ IsOwnItem owner world item

-- each site holds the state, whose bounds are guarded, and what its sites and packets hold beside it are records of the sites' own bounds
pub record HoldsGuarded (owner : ℕ → ℕ) (state : Content) (world : World) : Type 0 where
  pub guarded : Guards owner (all_bounds world.source state) []
  pub held : (site : ℕ) → HasSite world site → IsPart state (content_at world site)
  pub sites : (site : ℕ) → IsBesideOwn owner world state (content_at world site)
  pub packets : (number : ℕ) → IsBesideOwn owner world state (packet_at world number)

-- a site adds a bound
abbrev pub adds_bound : ℕ → Difference → Step
adds_bound site bound = changed site (Add bound)

-- each of the steps is accepted, one after the other
abbrev pub AllAccepted : World → List Step → Type 0
AllAccepted world [] = ⊤
AllAccepted world (step ∷ steps) = IsAccepted world step × AllAccepted (after world step) steps

-- each site holds this state, and no site and no packet holds anything else
pub record HoldsAlone (state : Content) (world : World) : Type 0 where
  pub held : (site : ℕ) → HasSite world site → IsPart state (content_at world site)
  pub sites : (site : ℕ) → IsPart (content_at world site) state
  pub packets : (number : ℕ) → IsPart (packet_at world number) state

-- the item is a record of a bound that is the site's own
abbrev pub IsOwnRecord : (ℕ → ℕ) → ℕ → Item → Type 0
IsOwnRecord owner site (addition id made) = is_owned owner site made.bound ≡ true
IsOwnRecord owner site (withdrawal id) = ⊥
IsOwnRecord owner site (replacement id old) = ⊥

-- a change brings nothing but such records, whatever their id, so it amends and withdraws nothing; what is merged, sent and delivered is free
abbrev pub KeepsToOwn : (ℕ → ℕ) → Step → Type 0
KeepsToOwn owner (changed site asked) = (id : SiteCounter) (item : Item) → Brought (change_call asked id) item → IsOwnRecord owner site item
KeepsToOwn owner (merged site other) = ⊤
KeepsToOwn owner (sent site part) = ⊤
KeepsToOwn owner (delivered site number) = ⊤

-- each site's own bounds, of all that it holds, have a schedule
abbrev pub HaveOwnSchedules : (ℕ → ℕ) → World → Type 0
HaveOwnSchedules owner world = (site : ℕ) → HasSite world site → HasSchedule (own_bounds owner site (all_bounds world.source (content_at world site)))

-- all that each site holds has one
abbrev pub HaveSchedules : World → Type 0
HaveSchedules world = (site : ℕ) → HasSite world site → HasSchedule (all_bounds world.source (content_at world site))
