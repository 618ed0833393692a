-- Sites that hold the same of the same plan have the same log.
use Rattle.std.proofs.Common.{rules, ◌≡◌, ℕ, List, Option}
use Rattle.stn_site.specs.Held.{Held}
use Rattle.stn_store.specs.Store.{Entry, Opens}

-- it is opened for either
pub opens_same : (entries : Option (List Entry)) (name : List ℕ) (site : ℕ) (one other : Held) → other.site ≡ one.site → other.source ≡ one.source
    → other.state ≡ one.state → Opens entries name site one → Opens entries name site other
opens_same entries name site one other beside from state opened = search rules
