-- What can be told, and the least number of which it holds.
use Rattle.std.proofs.{Common.{rules, ◌≡◌, ◌⊎◌, inl, inr, ℕ, ℤ, zero, suc, ◌<◌, ◌<ℤ◌, arith}, lemmas.Bool.cases_lt}

-- it holds, or it doesn't
abbrev pub Told : Type 0 → Type 0
Told P = P ⊎ (¬ P)

pub both_told : (P Q : Type 0) → Told P → Told Q → Told (P × Q)
both_told P Q h2 q = search rules

pub told_as : (P Q : Type 0) → (P → Q) → (Q → P) → Told P → Told Q
told_as P Q forth back h4 = search rules

pub same_told : (a b : ℤ) → Told (a ≡ b)
same_told a b = search rules

pub less_told : (a b : ℤ) → Told (a <ℤ b)
less_told a b = search rules

-- the least number of which it holds
pub least_below : (P : ℕ → Type 0) → ((k : ℕ) → Told (P k)) → (n : ℕ)
    → ((k : ℕ) × P k × ((j : ℕ) → j < k → ¬ P j)) ⊎ ((k : ℕ) → k < n → ¬ P k)
least_below P told zero = inr (λ k below. absurd (omega arith))
least_below P told (suc n) =
    elim (least_below P told n) [
      | inl found ↦ inl found
      | inr none ↦ elim (told n) [
        | inl holds ↦ inl (n, holds, none)
        | inr fails ↦ inr (λ k below. elim (cases_lt k n) [
          | inl before ↦ none k before
          | inr past ↦ (let e : n ≡ k = omega arith in rw e at fails)
        ])
      ]
    ]
