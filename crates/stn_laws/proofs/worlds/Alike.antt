-- Items that replace an id.
use Rattle.std.proofs.Common.{rules, ◌≡◌, true}
use Rattle.stn_records.{specs.{Id.SiteCounter, Content.{Content, Item, HasItem, is_replaced}}, proofs.Replaced.{replaced_by_withdrawal, replaced_by_entry}}
use Rattle.stn_site.specs.Calls.{Replaces}

-- what replaces an id, among some items, does so among more
pub replaces_more : (Has More : Item → Type 0) (id : SiteCounter) → ((item : Item) → Has item → More item) → Replaces Has id → Replaces More id
replaces_more Has More id more replaces = search rules

-- an id that an item of a state replaces is replaced
pub replaced_by : (s : Content) (id : SiteCounter) → Replaces (HasItem s) id → is_replaced s id ≡ true
replaced_by s id replaces = search (rules, replaced_by_withdrawal, replaced_by_entry)
