use Rattle.std.specs.{Prelude.{◌≡◌, ℕ, ℤ, suc, ◌<◌, ◌≤◌, ◌+ℤ◌, List, [], ◌∷◌, length, take, All}, List.AllByRecursion}
use Rattle.stn_time.specs.Time.{IsWithinHorizon}
use Rattle.stn_net.specs.{Difference.Difference, Matrix.Tightest.IsTightest}
use Rattle.stn_conflict.specs.{declared.links.Link.Link, Arcs.{arc_of, rank, weight_of, IsChain}, Culprit.IsCulprit}

-- the link is tight: the greatest difference from `start` to its end is that to its beginning plus the link's weight
pub record IsTight (bounds : List Difference) (start : ℕ) (link : Link) : Type 0 where
  pub there : link.place < length bounds
  pub tight : (most : ℤ) × IsTightest bounds start (arc_of bounds link).from most
      × IsTightest bounds start (arc_of bounds link).to (most +ℤ (arc_of bounds link).weight)

-- a chain of tight links from `start` to x
pub record IsTightChain (bounds : List Difference) (start x : ℕ) (links : List Link) : Type 0 where
  pub chain : IsChain bounds links start x
  pub tight : AllByRecursion (IsTight bounds start) links

-- the least number of tight links in a chain from `start` to x
pub record IsLevel (bounds : List Difference) (start x level : ℕ) : Type 0 where
  pub reached : (links : List Link) × IsTightChain bounds start x links × (length links ≡ level)
  pub least : (links : List Link) → IsTightChain bounds start x links → level ≤ length links

-- a tight link that begins one level lower than it ends
pub record IsLevelStep (bounds : List Difference) (start : ℕ) (link : Link) : Type 0 where
  pub tight : IsTight bounds start link
  pub level : (level : ℕ) × IsLevel bounds start (arc_of bounds link).from level
      × IsLevel bounds start (arc_of bounds link).to (suc level)

-- the first of the steps that end where it ends
pub record IsFirstStep (bounds : List Difference) (start : ℕ) (link : Link) : Type 0 where
  pub step : IsLevelStep bounds start link
  pub first : (other : Link) → rank other < rank link → (arc_of bounds other).to ≡ (arc_of bounds link).to
      → ¬ IsLevelStep bounds start other

-- the first chain from `start` to x: going back from x, it takes the first step to each event that it comes to
pub record IsWay (bounds : List Difference) (start x : ℕ) (links : List Link) : Type 0 where
  pub chain : IsChain bounds links start x
  pub first : AllByRecursion (IsFirstStep bounds start) links

-- the way from `start` to x, with its sum, where there are so many events with the origin
pub record IsWayOf (bounds : List Difference) (start x count : ℕ) (links : List Link) (sum : ℤ) : Type 0 where
  pub way : IsWay bounds start x links
  pub sum_is : sum ≡ weight_of bounds links
  pub tightest : IsTightest bounds start x sum
  pub within : IsWithinHorizon sum
  pub places : All (λ link. link.place < length bounds) links
  pub short : length links < count
  pub empty : start ≡ x → length links ≡ 0

-- the culprit's link, and then the way from its end to its beginning over the bounds before the culprit
abbrev pub IsNamedCycle : List Difference → List Link → Type 0
IsNamedCycle bounds [] = ⊥
IsNamedCycle bounds (link ∷ links) =
    IsCulprit bounds link × IsWay (take link.place bounds) (arc_of bounds link).to (arc_of bounds link).from links
