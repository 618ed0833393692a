use Rattle.std.specs.Prelude.{◌≡◌, ℕ, ℤ, pos, neg_ℤ, ◌+ℤ◌, ◌<ℤ◌, ◌<◌, ◌+◌, ◌*◌, List, [], ◌∷◌, length, slice_index_or}
use Rattle.stn_net.specs.Difference.{Difference}
use Rattle.stn_conflict.specs.declared.links.{Link.Link, Side.{Side, TheVariants.{Upper, Lower}}}

-- the event `to` comes at most `weight` milliseconds after the event `from`
pub record Arc : Type 0 where
  pub from : ℕ
  pub to : ℕ
  pub weight : ℤ

-- what a side of a bound says
abbrev pub arc : Difference → Side → Arc
arc bound Upper = record { from = bound.from; to = bound.to; weight = bound.hi }
arc bound Lower = record { from = bound.to; to = bound.from; weight = neg_ℤ bound.lo }

-- the bound at a place of the list
abbrev pub bound_at : List Difference → ℕ → Difference
bound_at bounds place = slice_index_or bounds place (record { from = 0; to = 0; lo = pos 0; hi = pos 0 })

-- what a link says: the side that it names of the bound at its place
abbrev pub arc_of : List Difference → Link → Arc
arc_of bounds link = arc (bound_at bounds link.place) link.side

-- the upper side stands before the lower
abbrev pub side_rank : Side → ℕ
side_rank Upper = 0
side_rank Lower = 1

-- the order of the links: by place, and at one place by side
abbrev pub rank : Link → ℕ
rank link = 2 * link.place + side_rank link.side

-- links of the bounds that lead from x to y, each of which ends where the next begins
abbrev pub IsChain : List Difference → List Link → ℕ → ℕ → Type 0
IsChain bounds [] x y = x ≡ y
IsChain bounds (link ∷ links) x y =
    (link.place < length bounds) × ((arc_of bounds link).from ≡ x) × IsChain bounds links (arc_of bounds link).to y

-- the sum of the links' weights
abbrev pub weight_of : List Difference → List Link → ℤ
weight_of bounds [] = pos 0
weight_of bounds (link ∷ links) = (arc_of bounds link).weight +ℤ weight_of bounds links

-- a chain that is not empty, ends where it begins, and has a negative sum: no schedule meets all its
-- bounds (Dechter, Meiri and Pearl, 1991)
pub record IsNegativeCycle (bounds : List Difference) (links : List Link) : Type 0 where
  pub some : 0 < length links
  pub closed : (x : ℕ) × IsChain bounds links x x
  pub negative : weight_of bounds links <ℤ pos 0
