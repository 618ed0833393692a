-- For proofs alone: no public clause cites these words.
use Rattle.std.specs.Prelude.{◌≡◌, ℕ, ◌-◌, ◌≤◌, List, map}
use Rattle.stn_records.specs.{Id.SiteCounter, declared.record.Record.Record}
use Rattle.stn_conflict.specs.declared.links.Link.{Link}
use Rattle.stn_site.specs.Names.{id_at}

-- the link is of the record with this id, where the records come after so many other bounds
abbrev pub IsLinkOf : ℕ → List (SiteCounter × Record) → SiteCounter → Link → Type 0
IsLinkOf count records id link = (count ≤ link.place) × (id_at (map (λ entry. entry.0) records) (link.place - count) ≡ id)
