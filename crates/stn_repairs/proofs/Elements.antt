-- What a list has.
use Rattle.std.{proofs.{Common.{rules, ◌≡◌, suc, Bool, true, false, cond, List, [], ◌∷◌, map, filter, refl, sym, ap, subst, ◌∙◌, ⊎_elim, arith, ◌⊎◌}, lemmas.{Bool.false≢true, List.{length-map, get_or-map}}}, specs.List.Contains}

module _ {X : Type 0} where
  pub first_of : (x : X) (xs : List X) → Contains (x ∷ xs) x
  first_of x xs = (0, omega arith, refl)

  pub later_of : (y : X) (xs : List X) (x : X) → Contains xs x → Contains (y ∷ xs) x
  later_of y xs x (k, below, is) = (suc k, omega arith, is)

  -- an element is the first, or one of the rest
  pub first_or_later : (y : X) (xs : List X) (x : X) → Contains (y ∷ xs) x → (y ≡ x) ⊎ Contains xs x
  first_or_later y xs x h3 = search rules

  pub none_of_nothing : (x : X) → Contains [] x → ⊥
  none_of_nothing x (k, below, is) = omega arith

  -- what a filter keeps
  pub kept_by : (test : X → Bool) (xs : List X) (x : X) → Contains xs x → test x ≡ true → Contains (filter test xs) x
  kept_by test [] x has passes = has
  kept_by test (y ∷ xs) x has passes =
      elim (test y) as (λ b. test y ≡ b → Contains (cond b (y ∷ filter test xs) (filter test xs)) x) [
        | true ↦ λ e. ⊎_elim
            (λ same. subst (λ z. Contains (y ∷ filter test xs) z) same (first_of y (filter test xs)))
            (λ later. later_of y (filter test xs) x (kept_by test xs x later passes))
            (first_or_later y xs x has)
        | false ↦ λ e. ⊎_elim
            (λ same. absurd (false≢true (sym e ∙ ap test same ∙ passes)))
            (λ later. kept_by test xs x later passes)
            (first_or_later y xs x has)
      ] refl

module _ {X Y : Type 0} (f : X → Y) where
  pub mapped : (xs : List X) (x : X) → Contains xs x → Contains (map f xs) (f x)
  mapped xs x (place, below, is) = (place, omega (arith, below, length-map xs f), get_or-map f xs place x (f x) below ∙ ap f is)
