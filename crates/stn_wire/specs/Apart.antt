-- For proofs alone: no public clause cites these words.
-- Values with the same bytes are one.
use Rattle.std.{specs.{Prelude.{◌≡◌, ◌≤◌, ℕ, ℤ, ◌≤ℤ◌, ◌<◌, ◌^◌, min, List, [], ◌∷◌, ◌++◌, length}, Int.to_be_bytes}, proofs.Common.{rules, refl, ap, sym, ◌∙◌, take, drop, arith}}
use Rattle.stn_net.specs.Difference.{Difference}
use Rattle.stn_records.specs.{Id.SiteCounter, declared.record.{Mark.Mark, Record.Record}}
use Rattle.stn_wire.specs.{declared.layout.Layout.{Layout, TheVariants.{Old, New}}, Spelling.{two, four, layout_horizon, width_of, side_width, gap_in_layout, most_gap, side_bytes, IsLow, IsHigh, bound_bytes, IsBound, record_bytes, IsRecord, entry_bytes, IsEntry, entry_width, tomb_bytes, IsTomb, amendment_bytes, AreIds}}

pub two_apart : (m n : ℕ) → m < 2 ^ 16 → n < 2 ^ 16 → two m ≡ two n → m ≡ n
two_apart m n p q e = search rules

pub four_apart : (m n : ℕ) → m < 2 ^ 32 → n < 2 ^ 32 → four m ≡ four n → m ≡ n
four_apart m n p q e = search rules

-- ---- the sides of bounds

-- a number that a side's bytes hold
abbrev pub IsSideNumber : Layout → ℕ → Type 0
IsSideNumber Old n = n < 2 ^ 32
IsSideNumber New n = n < 2 ^ 64

pub number_apart : (layout : Layout) (m n : ℕ) → IsSideNumber layout m → IsSideNumber layout n → to_be_bytes (width_of layout) m ≡ to_be_bytes (width_of layout) n → m ≡ n
number_apart layout m n p q e = search rules

pub gap_number : (layout : Layout) (n : ℕ) → n ≤ most_gap layout → IsSideNumber layout n
gap_number layout n h = search rules

pub side_wide : (layout : Layout) (side : ℤ) → length (side_bytes layout side) ≡ side_width layout
side_wide layout side = search rules

-- the number that is spelled
abbrev pub spelled_gap : Layout → ℤ → ℕ
spelled_gap layout side = min (gap_in_layout layout side) (most_gap layout)

pub spelled_few : (layout : Layout) (side : ℤ) → spelled_gap layout side ≤ most_gap layout
spelled_few layout side = omega arith

pub gap_within : (layout : Layout) (side : ℤ) → side ≤ℤ layout_horizon layout → spelled_gap layout side ≡ gap_in_layout layout side
gap_within layout side h = search (rules)

-- an open side is spelled as an end, and no other side is
low_apart : (layout : Layout) (mark : Mark) (a b : ℤ) → IsLow layout mark a → IsLow layout mark b → spelled_gap layout a ≡ spelled_gap layout b → a ≡ b
low_apart layout mark a b p q e = search (rules)

high_apart : (layout : Layout) (mark : Mark) (a b : ℤ) → IsHigh layout mark a → IsHigh layout mark b → spelled_gap layout a ≡ spelled_gap layout b → a ≡ b
high_apart layout mark a b p q e = search (rules)

-- equal texts are cut alike after fronts of one length
pub cut_alike : (a b x y : List ℕ) → length a ≡ length b → a ++ x ≡ b ++ y → (a ≡ b) × (x ≡ y)
cut_alike [] [] x y l e = (refl, e)
cut_alike [] (b ∷ bs) x y l e = absurd (omega arith)
cut_alike (a ∷ xs) [] x y l e = absurd (omega arith)
cut_alike (a ∷ xs) (b ∷ bs) x y l e =
    let heads : a ≡ b = cc in
    let tails : xs ++ x ≡ bs ++ y = cc in
    let rest = cut_alike xs bs x y (omega arith) tails in
    (λ i. heads i ∷ rest.0 i, rest.1)

-- the four fields of bounds with the same bytes
pub record SameFields (a b : Difference) : Type 0 where
  pub from : a.from ≡ b.from
  pub to : a.to ≡ b.to
  pub lo : a.lo ≡ b.lo
  pub hi : a.hi ≡ b.hi

-- the events are few enough for two bytes, and the layout spells the sides
pub record IsSpelledBound (layout : Layout) (mark : Mark) (bound : Difference) : Type 0 where
  pub from : bound.from < 2 ^ 16
  pub to : bound.to < 2 ^ 16
  pub lo : IsLow layout mark bound.lo
  pub hi : IsHigh layout mark bound.hi

pub fields_apart : (layout : Layout) (mark : Mark) (a b : Difference) → IsSpelledBound layout mark a → IsSpelledBound layout mark b → bound_bytes layout a ≡ bound_bytes layout b → SameFields a b
fields_apart layout mark a b p q e =
    let sides = cut_alike (side_bytes layout a.lo) (side_bytes layout b.lo) (side_bytes layout a.hi) (side_bytes layout b.hi) (side_wide layout a.lo ∙ sym (side_wide layout b.lo)) (ap (drop 4) e) in
    record {
      from = two_apart a.from b.from p.from q.from (ap (take 2) e);
      to = two_apart a.to b.to p.to q.to (ap (λ l. take 2 (drop 2 l)) e);
      lo = low_apart layout mark a.lo b.lo p.lo q.lo (number_apart layout _ _ (gap_number layout _ (spelled_few layout a.lo)) (gap_number layout _ (spelled_few layout b.lo)) sides.0);
      hi = high_apart layout mark a.hi b.hi p.hi q.hi (number_apart layout _ _ (gap_number layout _ (spelled_few layout a.hi)) (gap_number layout _ (spelled_few layout b.hi)) sides.1);
    }

pub bound_apart : (layout : Layout) (mark : Mark) (a b : Difference) → IsBound layout mark a → IsBound layout mark b → bound_bytes layout a ≡ bound_bytes layout b → a ≡ b
bound_apart layout mark a b p q e = search (rules, fields_apart)

pub record_apart : (layout : Layout) (a b : Record) → IsRecord layout a → IsRecord layout b → record_bytes layout a ≡ record_bytes layout b → a ≡ b
record_apart layout a b p q e = search (rules, bound_apart)

pub entry_apart : (layout : Layout) (a b : SiteCounter × Record) → IsEntry layout a → IsEntry layout b → entry_bytes layout a ≡ entry_bytes layout b → a ≡ b
entry_apart layout a b p q e = search (rules, record_apart)

pub entry_sized : (layout : Layout) (entry : SiteCounter × Record) → length (entry_bytes layout entry) ≡ entry_width layout
entry_sized layout entry = search rules

pub entry_some : (layout : Layout) → 0 < entry_width layout
entry_some layout = omega arith

pub amendment_apart : (a b : SiteCounter × SiteCounter) → AreIds a → AreIds b → amendment_bytes a ≡ amendment_bytes b → a ≡ b
amendment_apart a b p q e = search rules

pub tomb_apart : (a b : SiteCounter × Unit {0}) → IsTomb a → IsTomb b → tomb_bytes a ≡ tomb_bytes b → a ≡ b
tomb_apart a b p q e = search rules
