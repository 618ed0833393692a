-- The numbers that digits write, as the code adds them up.
use Rattle.std.{proofs.Common.{rules, ◌≡◌, ℕ, suc, ◌+◌, ◌*◌, ◌<◌, min, Bool, cond, ◌&&◌, List, [], ◌∷◌, length, ℤ, pos, neg_ℤ, refl, eqb}, specs.{Char.is_ascii_digit, List.prefix_len, Str.all_ascii_digits}}
use Rattle.stn_time.specs.{Near.IsNear, TimeOf.is_numeral, declared.reading.TheConstants.BEYOND}

-- the digits reach to the end exactly where there is nothing else
all-step : (p n : ℕ) (b : Bool) {rest : Bool} → eqb p n ≡ rest → eqb (cond b (1 + p) 0) (suc n) ≡ (b && rest)
all-step p n b e = search rules

pub all_ascii_digits-prefix : (bytes : List ℕ) → eqb (prefix_len is_ascii_digit bytes) (length bytes) ≡ all_ascii_digits bytes
all_ascii_digits-prefix [] = refl
all_ascii_digits-prefix (c ∷ cs) = all-step (prefix_len is_ascii_digit cs) (length cs) (is_ascii_digit c) (all_ascii_digits-prefix cs)

pub is_numeral-prefix : (bytes : List ℕ) → 0 < length bytes → eqb (prefix_len is_ascii_digit bytes) (length bytes) ≡ is_numeral bytes
is_numeral-prefix bytes h = search (rules, all_ascii_digits-prefix)

abbrev signed : Bool → ℕ → ℤ
signed negative size = cond negative (neg_ℤ (pos size)) (pos size)

-- seconds that saturate beyond the horizon give the number itself, or one beyond the horizon
pub near-size : (negative : Bool) (whole : ℕ) {thousandths s t : ℕ} {kept : ℤ} → thousandths < 1000 → s ≡ min BEYOND whole → t ≡ thousandths → kept ≡ signed negative (1000 * s + t) → IsNear (signed negative (1000 * whole + thousandths)) kept
near-size negative whole small e f g = search rules
