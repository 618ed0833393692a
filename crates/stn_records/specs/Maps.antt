-- The union of two finite maps, and their join, which is there where the maps agree.
use Rattle.std.specs.{Prelude.{◌≡◌, Bool, true, false, not, List, [], ◌∷◌, Option, Some, None, is_some, find, if◌then◌else◌}, declared.cmp.Ordering.Ordering, FinMap.FinMap}
use Rattle.std.specs.FinMap as map

-- both values are there, and they differ
abbrev pub differ : {X : Type 0} → (X → X → Bool) → Option X → Option X → Bool
differ same (Some x) (Some y) = not (same x y)
differ same _ _ = false

-- two values of a set are equal
abbrev pub same_units : Unit {0} → Unit {0} → Bool
same_units a b = true

module _ {K X : Type 0} {R : K → K → Ordering} where
  -- the map with the entries put in, the first one last
  abbrev pub with_entries : FinMap R X → List (K × X) → FinMap R X
  with_entries m [] = m
  with_entries m (e ∷ es) = map.insert (with_entries m es) e.0 e.1

  -- the entries of both
  abbrev pub union : FinMap R X → FinMap R X → FinMap R X
  union a b = with_entries b (map.entries a)

  -- the least key at which the two have different values
  abbrev pub dispute : (X → X → Bool) → FinMap R X → FinMap R X → Option K
  dispute same a b = find (λ k. differ same (map.get a k) (map.get b k)) (map.keys a)

  -- the union, where no key is in dispute
  abbrev pub join : (X → X → Bool) → FinMap R X → FinMap R X → Option (FinMap R X)
  join same a b = if is_some (dispute same a b) then None else Some (union a b)

  -- the map has the entry
  abbrev pub HasEntry : FinMap R X → K × X → Type 0
  HasEntry m entry = map.get m entry.0 ≡ Some entry.1

  -- the whole has each entry of the part
  abbrev pub HasEntries : FinMap R X → FinMap R X → Type 0
  HasEntries whole part = (entry : K × X) → HasEntry part entry → HasEntry whole entry

  -- each value of the map is fit
  abbrev pub AllFit : (X → Type 0) → FinMap R X → Type 0
  AllFit Fits m = (k : K) (x : X) → map.get m k ≡ Some x → Fits x

  -- what the map has at the key, if anything, is the value
  abbrev pub AgreesAt : FinMap R X → K → X → Type 0
  AgreesAt m k x = (there : X) → map.get m k ≡ Some there → there ≡ x
