-- For proofs alone: no public clause cites these words.
-- How ground atoms are numbered: each name has a number, and each atom, spelt by the numbers of its names, has one too.
use Rattle.std.specs.{Prelude.{◌≡◌, ℕ, List, Contains, Some, slice_get}, List.AllZip}
use Rattle.stn_lift.specs.Footprints.{GroundAtom, Footprint}

-- the names so far with small letters for capital ones, and the spellings of the atoms so far, by their numbers
pub record Numbering : Type 0 where
  pub names : List (List ℕ)
  pub spellings : List (List ℕ)

-- no element stands at two places
abbrev pub AreDifferent : {X : Type 0} → List X → Type 0
AreDifferent {X} xs = (i j : ℕ) (x : X) → slice_get xs i ≡ Some x → slice_get xs j ≡ Some x → i ≡ j

-- each name and each spelling has one number
pub record IsUnambiguous (numbering : Numbering) : Type 0 where
  pub names : AreDifferent numbering.names
  pub spellings : AreDifferent numbering.spellings

-- the name of a number
abbrev pub IsNameAt : List (List ℕ) → ℕ → List ℕ → Type 0
IsNameAt names number name = slice_get names number ≡ Some name

-- the number is that of an atom
pub record IsNumberOf (numbering : Numbering) (number : ℕ) (atom : GroundAtom) : Type 0 where
  pub spelling : List ℕ
  pub stored : slice_get numbering.spellings number ≡ Some spelling
  pub names : AllZip (IsNameAt numbering.names) spelling atom

-- what had a number keeps it
pub record KeepsNumbers (old new : Numbering) : Type 0 where
  pub names : (number : ℕ) (name : List ℕ) → slice_get old.names number ≡ Some name → slice_get new.names number ≡ Some name
  pub spellings : (number : ℕ) (spelling : List ℕ) → slice_get old.spellings number ≡ Some spelling → slice_get new.spellings number ≡ Some spelling

-- the numbers are those of the atoms, in any order
pub record AreNumbersOf (numbering : Numbering) (numbers : List ℕ) (atoms : List GroundAtom) : Type 0 where
  pub sound : (number : ℕ) → Contains numbers number → (atom : GroundAtom) × IsNumberOf numbering number atom × Contains atoms atom
  pub full : (atom : GroundAtom) → Contains atoms atom → (number : ℕ) × IsNumberOf numbering number atom × Contains numbers number

-- what an event needs, adds and deletes, in numbers
pub record IsNumbered (numbering : Numbering) (numbered : Footprint ℕ) (atoms : Footprint GroundAtom) : Type 0 where
  pub needs : AreNumbersOf numbering numbered.needs atoms.needs
  pub adds : AreNumbersOf numbering numbered.adds atoms.adds
  pub deletes : AreNumbersOf numbering numbered.deletes atoms.deletes
