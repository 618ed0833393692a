-- For proofs alone: no public clause cites these words.
-- Lists of entries in the order of their ids.
use Rattle.std.specs.{Prelude.{◌≡◌, ℕ, ◌<◌, ◌≤◌, Bool, false, not, List, [], ◌∷◌, length, filter, insert, slice_index_or, Option, Some, None, is_some, slice_get, find as first_such, if◌then◌else◌}, List.list_all, declared.cmp.Ordering.Ordering, Ordering.eq_by_cmp, FinMap.{find, put, Entries.by_order}, Map.keys_of}
use Rattle.stn_records.specs.{Id.{SiteCounter, id_cmp}, Maps.differ}

-- the first id at which the two have different values
abbrev pub dispute_of : {X : Type 0} → (X → X → Bool) → List (SiteCounter × X) → List (SiteCounter × X) → Option SiteCounter
dispute_of same ours theirs = first_such (λ id. differ same (find id_cmp id ours) (find id_cmp id theirs)) (keys_of ours)

-- each entry of theirs is one of ours
abbrev pub is_there : {X : Type 0} → (X → X → Bool) → Option X → X → Bool
is_there same None one = false
is_there same (Some there) one = same there one

abbrev pub has_entries : {X : Type 0} → (X → X → Bool) → List (SiteCounter × X) → List (SiteCounter × X) → Bool
has_entries same ours theirs = list_all (λ entry. is_there same (find id_cmp entry.0 ours) entry.1) theirs

-- the entries of ours whose ids theirs lacks
abbrev pub without_ids : {X Y : Type 0} → List (SiteCounter × X) → List (SiteCounter × Y) → List (SiteCounter × X)
without_ids ours theirs = filter (λ entry. not (is_some (find id_cmp entry.0 theirs))) ours

-- the entry at the place has the id
pub record IsPlaceOf {X : Type 0} (entries : List (SiteCounter × X)) (id : SiteCounter) (place : ℕ) : Type 0 where
  pub in_range : place < length entries
  pub found : (entry : SiteCounter × X) → slice_index_or entries place entry ≡ entry → find id_cmp id entries ≡ Some entry.1

-- no entry has the id, and one that has it would go to the place
pub record IsGapFor {X : Type 0} (entries : List (SiteCounter × X)) (id : SiteCounter) (place : ℕ) : Type 0 where
  pub in_range : place ≤ length entries
  pub absent : find id_cmp id entries ≡ None
  pub inserted : (x : X) → insert entries place (id, x) ≡ put id_cmp id x entries

-- the entries before the place are of the site or a lesser one, and those from it on of greater ones
pub record IsEndOf {X : Type 0} (entries : List (SiteCounter × X)) (site : ℕ) (place : ℕ) : Type 0 where
  pub in_range : place ≤ length entries
  pub before : (k : ℕ) (entry : SiteCounter × X) → k < place → (slice_index_or entries k entry).0.site ≤ site
  pub behind : (k : ℕ) (entry : SiteCounter × X) → place ≤ k → k < length entries → site < (slice_index_or entries k entry).0.site

module _ {K X : Type 0} (R : K → K → Ordering) where
  -- an entry and the rest of ours, and theirs; `rest` merges the rest of ours with what is left of theirs
  abbrev pub merge_from : K × X → (List (K × X) → List (K × X)) → List (K × X) → List (K × X)
  merge_from x rest [] = x ∷ rest []
  merge_from x rest (y ∷ ys) = by_order (R x.0 y.0) (x ∷ rest (y ∷ ys)) (x ∷ rest ys) (y ∷ merge_from x rest ys)

  -- both lists in order; where two keys tie, the entry of ours
  abbrev pub merge : List (K × X) → List (K × X) → List (K × X)
  merge [] ys = ys
  merge (x ∷ xs) ys = merge_from x (merge xs) ys

-- the first id, and the entries after the first, where that has the id
abbrev pub first_key : {X : Type 0} → List (SiteCounter × X) → Option SiteCounter
first_key entries = slice_get (keys_of entries) 0

abbrev pub past_id : {X : Type 0} → SiteCounter → List (SiteCounter × X) → List (SiteCounter × X)
past_id id [] = []
past_id id (entry ∷ rest) = if eq_by_cmp id_cmp entry.0 id then rest else (entry ∷ rest)
