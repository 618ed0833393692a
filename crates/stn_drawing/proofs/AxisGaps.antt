-- The gaps of an axis.
use Rattle.std.{proofs.Common.{rules, ◌≡◌, ℕ, ◌+◌, ◌<◌, ◌≤◌, nat_lt, Bool, true, ◌&&◌, List, [], ◌∷◌, length, drop, get_or, if◌then◌else◌, drop-cons, add-one, arith}, specs.Prelude.nat_le}
use Rattle.stn_drawing.specs.Axis.{gaps, gaps_in, fits, first_gap, gap_of}

abbrev pub is_gap : ℕ → Bool
is_gap gap = nat_le 1000 gap && nat_lt gap 68719476736

pub gap_bounds : (gap : ℕ) → is_gap gap ≡ true → (1000 ≤ gap) × (gap < 68719476736)
gap_bounds gap e = search rules

-- each gap is between a second and two years
pub gap_at : {i : ℕ} → i < 25 → (1000 ≤ get_or gaps i 0) × (get_or gaps i 0 < 68719476736)
gap_at within = search rules

-- the first gap that fits, from a place on
pub first_drop : (before after : ℕ) (xs : List ℕ) {i : ℕ} → i < length xs
    → first_gap before after (drop i xs) ≡ (if fits before after (get_or xs i 0) then get_or xs i 0 else first_gap before after (drop (i + 1) xs))
first_drop before after xs {i} within = cc (drop-cons xs i 0 within, add-one i)

module _ (before after : ℕ) (first : before < 35184372088832) (second : after < 35184372088832) where
  few_case : {b : Bool} (gap rest : ℕ) → (b ≡ true → gaps_in gap before + gaps_in gap after < 16384) → gaps_in rest before + gaps_in rest after < 16384
      → gaps_in (if b then gap else rest) before + gaps_in (if b then gap else rest) after < 16384
  few_case gap rest fit other = search rules

  fit_few : (gap : ℕ) → fits before after gap ≡ true → gaps_in gap before + gaps_in gap after < 16384
  fit_few gap e = search rules

  few_in : (xs : List ℕ) → gaps_in (first_gap before after xs) before + gaps_in (first_gap before after xs) after < 16384
  few_in [] = omega (arith)
  few_in (gap ∷ rest) = few_case gap (first_gap before after rest) (fit_few gap) (few_in rest)

  -- an axis has few gaps
  pub few_gaps : gaps_in (gap_of before after) before + gaps_in (gap_of before after) after < 16384
  few_gaps = few_in gaps

-- it takes a gap to reach at all
pub some_gaps : {gap far : ℕ} → 1 ≤ gap → 1 ≤ far → 1 ≤ gaps_in gap far
some_gaps some reach = search rules
