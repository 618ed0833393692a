-- The printed names of events and ids.
use Rattle.std.specs.Prelude.{ℕ, ◌+◌, ◌/◌, ◌%◌, List, codes, decimal, ◌++◌, ◌==◌, if◌then◌else◌}

-- the printed form of an event: the origin, the start of a step, the end of a step
abbrev pub event_text : ℕ → List ℕ
event_text event = if event == 0 then codes "z" else (if event % 2 == 1
    then codes "s" ++ decimal (event / 2 + 1)
    else codes "e" ++ decimal (event / 2))

-- an id as two numbers: the site that made a record, and that site's counter
pub record SiteCounter : Type 0 where
  pub site : ℕ
  pub counter : ℕ

-- the printed form of an id: both numbers without leading zeros, with a dot between
abbrev pub id_text : SiteCounter → List ℕ
id_text id = decimal id.site ++ codes "." ++ decimal id.counter
