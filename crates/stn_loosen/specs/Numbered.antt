-- The state of a site that made some records, and nothing else.
use Rattle.std.specs.{Prelude.{◌≡◌, ℕ, ◌+◌, List, [], ◌∷◌}, FinMap.entries}
use Rattle.stn_net.specs.Difference.{Difference}
use Rattle.stn_records.specs.{Id.SiteCounter, declared.record.Record.Record, Content.{Content, no_content}}
use Rattle.stn_site.specs.Held.{plain}

-- plain records of these bounds, with the site's ids from a counter on
abbrev pub numbered : ℕ → ℕ → List Difference → List (SiteCounter × Record)
numbered site counter [] = []
numbered site counter (bound ∷ bounds) = (record { site = site; counter = counter }, plain bound) ∷ numbered site (counter + 1) bounds

-- the state has the records of these bounds, numbered from 1, and nothing else
pub record HoldsNumbered (site : ℕ) (bounds : List Difference) (state : Content) : Type 0 where
  pub records : entries state.additions ≡ numbered site 1 bounds
  pub alone : state ≡ record no_content { additions = state.additions }

-- the state has the records of such bounds
abbrev pub HoldsSome : (List Difference → Type 0) → ℕ → Content → Type 0
HoldsSome P site state = (bounds : List Difference) × P bounds × HoldsNumbered site bounds state
