-- What a name feeds a hasher, byte by byte.
use Rattle.std.{proofs.{Common.{rules, ◌≡◌, ℕ, ◌+◌, ◌<◌, ◌≤◌, List, [], ◌∷◌, length, get_or, drop, fold, refl, drop-cons}, lemmas.List.drop_all}, specs.Char.to_ascii_lowercase}
use Rattle.stn_pddl.specs.Tree.Names.{hash_writes}

module _ {S : Type 0} (write : S → List ℕ → S) where
  hashed-cons : (state : S) (b : ℕ) (word : List ℕ) → fold write state (hash_writes (b ∷ word)) ≡ fold write (write state (to_ascii_lowercase b ∷ [])) (hash_writes word)
  unfolding hash_writes
  hashed-cons state b word = refl

  -- one byte more
  pub hashed-at : {state next : S} {i small : ℕ} (word : List ℕ) → i < length word → small ≡ to_ascii_lowercase (get_or word i 0) → next ≡ write state (small ∷ [])
      → fold write next (hash_writes (drop (i + 1) word)) ≡ fold write state (hash_writes (drop i word))
  hashed-at word within low written = search (rules, drop-cons, hashed-cons)

  pub hashed-end : (state : S) (i : ℕ) (word : List ℕ) → length word ≤ i → state ≡ fold write state (hash_writes (drop i word))
  unfolding hash_writes
  hashed-end state i word over = rw (drop_all i word over) refl
