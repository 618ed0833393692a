-- Each step has a row of its own.
use Rattle.std.{proofs.{Common.{rules, ◌≡◌, ◌≢◌, ◌⊎◌, ℕ, ℤ, zero, suc, ◌+◌, ◌==◌, ◌<◌, ◌≤◌, nat_lt, Bool, true, false, ◌&&◌, ◌||◌, cond, List, length, filter, ⊎_elim, refl, sym, ap, arith}, lemmas.Bool.cases_lt}, specs.List.range_with_len}
use Rattle.stn_chart.{specs.Chart.{start_of, soonest_in, is_above, row_in}, proofs.Drawing.one_first}

-- one step comes before another in the order of a time and a number
abbrev before : ℕ → ℕ → ℕ → ℕ → Bool
before k x j y = nat_lt k j || ((k == j) && nat_lt x y)

before_trans : (k x j y i z : ℕ) → before k x j y ≡ true → before j y i z ≡ true → before k x i z ≡ true
before_trans k x j y i z first second = grind (arith)

before_itself : (k x : ℕ) → before k x k x ≡ false
before_itself k x = grind (arith)

one_before : (k x j y : ℕ) → x ≢ y → (before k x j y ≡ true) ⊎ (before j y k x ≡ true)
one_before k x j y other = grind (arith)

le_case : (b c : Bool) (m n : ℕ) → (b ≡ true → c ≡ true) → m ≤ n → cond b 1 0 + m ≤ cond c 1 0 + n
le_case b c m n kept rest = search rules

module _ (p q : ℕ → Bool) (kept : (x : ℕ) → p x ≡ true → q x ≡ true) where
  counted_le : (a n : ℕ) → length (filter p (range_with_len a n)) ≤ length (filter q (range_with_len a n))
  counted_le a zero = omega arith
  counted_le a (suc n) =
      omega (arith, one_first p a (range_with_len (a + 1) n), one_first q a (range_with_len (a + 1) n), le_case (p a) (q a) _ _ (kept a) (counted_le (a + 1) n))

  module _ (m : ℕ) (out : p m ≡ false) (within : q m ≡ true) where
    counted_lt : (a n : ℕ) → a ≤ m → m < a + n → length (filter p (range_with_len a n)) < length (filter q (range_with_len a n))
    counted_lt a zero least most = absurd (omega (arith, least, most))
    counted_lt a (suc n) least most =
        let first = one_first p a (range_with_len (a + 1) n) in
        let second = one_first q a (range_with_len (a + 1) n) in
        ⊎_elim
        (λ (later : a < m). omega (arith, first, second, le_case (p a) (q a) _ _ (kept a) (counted_lt (a + 1) n (omega (arith, later)) (omega (arith, most)))))
        (λ (here : m ≤ a).
        let same : m ≡ a = omega (arith, least, here) in
        let none : cond {A = ℕ} (p a) 1 0 ≡ 0 = rw (sym same) (rw out refl) in
        let one : cond {A = ℕ} (q a) 1 0 ≡ 1 = rw (sym same) (rw within refl) in
        omega (arith, first, second, none, one, counted_le (a + 1) n))
        (cases_lt a m)

all_counted : (a n : ℕ) → length (filter (λ (x : ℕ). true) (range_with_len a n)) ≡ n
all_counted a zero = refl
all_counted a (suc n) = ap suc (all_counted (a + 1) n)

module _ (windows : List (ℤ × ℤ)) (steps : ℕ) where
  -- a step that stands above another has a lesser row
  above_less : (step other : ℕ) → 1 ≤ other → other ≤ steps → is_above windows step other ≡ true → row_in windows steps other < row_in windows steps step
  above_less step other least most above =
      counted_lt (is_above windows other) (is_above windows step)
      (λ x higher. before_trans (soonest_in windows (start_of x)) x (soonest_in windows (start_of other)) other (soonest_in windows (start_of step)) step higher above)
      other (before_itself (soonest_in windows (start_of other)) other) above 1 steps least (omega (arith, most))

  pub rows_apart : (one other : ℕ) → 1 ≤ one → one ≤ steps → 1 ≤ other → other ≤ steps → one ≢ other → row_in windows steps one ≢ row_in windows steps other
  rows_apart one other a b c d apart = search (rules, above_less)

  -- a step doesn't stand above itself, so there is a row for it
  pub row_below : (step : ℕ) → 1 ≤ step → step ≤ steps → row_in windows steps step < steps
  row_below step least most =
      let all = counted_lt (is_above windows step) (λ _. true) (λ x _. refl) step (before_itself (soonest_in windows (start_of step)) step) refl 1 steps least (omega (arith, most)) in
      omega (arith, all, all_counted 1 steps)
