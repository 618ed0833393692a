-- Which bounds each site can keep by itself. An owner is a map that gives each event beside the origin a site.
use Rattle.std.specs.Prelude.{ℕ, Bool, not, ◌&&◌, ◌||◌, ◌==◌, List, filter, slice_index}
use Rattle.stn_net.specs.Difference.{Difference}

-- the owner of each event, from a list of sites by the number of the event
abbrev pub owner_of : List ℕ → ℕ → ℕ
owner_of owners event = slice_index owners event

-- the event is the origin or the site's
abbrev pub is_at : (ℕ → ℕ) → ℕ → ℕ → Bool
is_at owner site event = (event == 0) || (owner event == site)

-- the bound is the site's own: each of its events is the origin or the site's
abbrev pub is_owned : (ℕ → ℕ) → ℕ → Difference → Bool
is_owned owner site bound = is_at owner site bound.from && is_at owner site bound.to

-- the site's own bounds
abbrev pub own_bounds : (ℕ → ℕ) → ℕ → List Difference → List Difference
own_bounds owner site bounds = filter (is_owned owner site) bounds

-- the bound is shared: neither of its events is the origin, and they have different owners; so it is no site's own
abbrev pub is_shared : (ℕ → ℕ) → Difference → Bool
is_shared owner bound = not (bound.from == 0) && (not (bound.to == 0) && not (owner bound.from == owner bound.to))
