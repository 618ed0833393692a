-- Runs of a world, and the items that are made in them.
use Rattle.std.specs.{Prelude.{ℕ, List, [], ◌∷◌, ◌++◌, length, map, filter, Bool, true, false, is_some, if◌then◌else◌}, List.Contains}
use Rattle.stn_lift.specs.PlanSource.{PlanSource}
use Rattle.stn_records.specs.{Id.SiteCounter, declared.record.Record.Record, Content.{Content, Item, addition, withdrawal, replacement, HasItem}}
use Rattle.stn_site.specs.{Held.plain, Calls.{Accepted, added, amended, withdrew, took}, Change.change_call}
use Rattle.stn_world.specs.{World.{World, opening_world, next_id_at, content_at}, Steps.{Step, changed, merged, sent, delivered, step_refusal, stepped, run}}

-- an item that was made, and the site that made it
pub record Making : Type 0 where
  pub site : ℕ
  pub item : Item

-- the items that a call makes: the record, for an amendment also the entry by which it replaces another; or the withdrawal. One that takes in
-- what another site holds makes none
abbrev pub items_made : Accepted → List Item
items_made (added id one) = addition id one ∷ []
items_made (amended id old bound) = addition id (plain bound) ∷ replacement id old ∷ []
items_made (withdrew id) = withdrawal id ∷ []
items_made (took other) = []

-- what an accepted step makes: one that is no change makes nothing
abbrev pub makings : World → Step → List Making
makings world (changed site asked) = map (λ item. record { site = site; item = item }) (items_made (change_call asked (next_id_at world site)))
makings world (merged site other) = []
makings world (sent site part) = []
makings world (delivered site number) = []

-- what a step makes: a refused one nothing
abbrev pub made_in : World → Step → List Making
made_in world step = if is_some (step_refusal world step) then [] else makings world step

-- all that is made in a run
abbrev pub made_in_run : World → List Step → List Making
made_in_run world [] = []
made_in_run world (step ∷ steps) = made_in world step ++ made_in_run (stepped world step) steps

-- some site made the item
abbrev pub WasMade : List Making → Item → Type 0
WasMade items item = (maker : ℕ) × Contains items (record { site = maker; item = item })

-- how many records were made
abbrev pub is_addition : Item → Bool
is_addition (addition id one) = true
is_addition (withdrawal id) = false
is_addition (replacement id old) = false

abbrev pub records_made : List Making → ℕ
records_made items = length (filter (λ one. is_addition one.item) items)

-- what is true of the world after each run, whatever its plan, its number of sites and its steps, and of the items made in it. A run that
-- breaks off early is a run, so it is true at each step of each run
abbrev pub InEachRun : (World → List Making → Type 0) → Type 0
InEachRun P = (source : PlanSource) (sites : ℕ) (steps : List Step) → P (run (opening_world source sites) steps) (made_in_run (opening_world source sites) steps)

-- what all sites and all packets hold
abbrev pub states_of : World → List Content
states_of world = world.sites ++ world.packets

-- the state has each record of an amendment with the entry by which it replaces another: the one that the site that made it has
abbrev pub HasEntries : World → Content → Type 0
HasEntries world state = (id old : SiteCounter) (one : Record) → HasItem state (addition id one) → HasItem (content_at world id.site) (replacement id old)
    → HasItem state (replacement id old)
