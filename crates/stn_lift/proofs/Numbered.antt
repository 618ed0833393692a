-- Sets in their order, and what their keys say.
use Rattle.std.{proofs.{Common.{rules, ◌≡◌, ℕ, ◌<◌, Bool, true, List, [], ◌∷◌, ◌++◌, map, zero, suc, Some, slice_get, sym, ◌∙◌, Decides}, lemmas.{Bool.{false≢true}, Map.Keys.apart_from_distinct, List.map-append, Option.{slice_get-map, slice_get_within, get_or_from_slice_get}}}, specs.{List.{IsDistinct}}}
use Rattle.indexmap.specs.IndexSet.{insert_key}
use Rattle.stn_lift.specs.Numbering.{AreDifferent}

-- more elements after leave each at its place
pub slice_get-kept : {X : Type 0} (xs ys : List X) (i : ℕ) {x : X} → slice_get xs i ≡ Some x → slice_get (xs ++ ys) i ≡ Some x
slice_get-kept [] ys i h = cc
slice_get-kept (y ∷ xs) ys zero h = h
slice_get-kept (y ∷ xs) ys (suc i) {x} h = slice_get-kept xs ys i h

-- keys whose equality is that of what they say
module _ {K X : Type 0} (eq : K → K → Bool) (view : K → X) (decides : (a b : K) → Decides (eq a b) (view a ≡ view b)) where
  -- the key at a place
  key_at : (ks : List K) (i : ℕ) {x : X} → slice_get (map view ks) i ≡ Some x → (k : K) × (slice_get ks i ≡ Some k) × (view k ≡ x)
  key_at ks i h = search (rules, slice_get-map)

  -- two places with one key are not in order
  not_before : (ks : List K) {i j : ℕ} {x : X} → IsDistinct eq ks → slice_get (map view ks) i ≡ Some x → slice_get (map view ks) j ≡ Some x → ¬ (i < j)
  not_before ks {i} {j} {x} distinct at_i at_j less =
      let one = key_at ks i at_i in
      let other = key_at ks j at_j in
      let apart = apart_from_distinct eq ks i j one.0 distinct less (slice_get_within ks j other.0 other.1) in
      let equal : eq one.0 other.0 ≡ true = (decides one.0 other.0).1 (one.2 ∙ sym other.2) in
      let first = get_or_from_slice_get ks i one.0 one.0 one.1 in
      let second = get_or_from_slice_get ks j other.0 one.0 other.1 in
      false≢true (sym (rw (first, second) at apart) ∙ equal)

  -- distinct keys say different things
  pub different : (ks : List K) → IsDistinct eq ks → AreDifferent (map view ks)
  different ks distinct i j x at_i at_j = search (rules, not_before)

  -- the place of a key that was inserted
  pub stored_at : (ks : List K) (value : K) (i : ℕ) → (k : K) × (slice_get ks i ≡ Some k) × (eq value k ≡ true) → slice_get (map view ks) i ≡ Some (view value)
  stored_at ks value i stored = search (rules, slice_get-map)

  -- an insertion leaves each key at its place
  pub kept_at : (old : List K) {new : List K} (value : K) → new ≡ insert_key eq old value → (i : ℕ) {x : X} → slice_get (map view old) i ≡ Some x → slice_get (map view new) i ≡ Some x
  kept_at old value is i h = search (rules, map-append, slice_get-kept)
