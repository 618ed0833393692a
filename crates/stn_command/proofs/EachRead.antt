-- Words that are read one after the other.
use Rattle.std.{proofs.Common.{◌≡◌, ℕ, List, ◌++◌, map, drop, Result, Ok}, specs.Borrow.Bor}
use Rattle.stn_refusal.specs.declared.failure.Failure.{Failure}
use Rattle.stn_command.specs.Words.{and_then, each_read}

module _ {X : Type 0} (read : List ℕ → Result X Failure) where
  abbrev pub all_said : List (Bor (List ℕ)) → Result (List X) Failure
  all_said words = each_read read (map (λ word. word.now) words)

  -- so many values were read, and the words from a place on are left
  abbrev pub IsReadTo : List (Bor (List ℕ)) → ℕ → List X → Type 0
  IsReadTo words place values = all_said words ≡ and_then (all_said (drop place words)) (λ rest. Ok (values ++ rest))
