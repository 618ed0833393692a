-- How a value is spelled in bytes. All numbers are unsigned, and their highest byte comes first.
use Rattle.std.specs.{Prelude.{◌≡◌, ◌⊎◌, ℕ, ℤ, pos, neg_ℤ, ◌<ℤ◌, ◌≤ℤ◌, ◌+◌, ◌*◌, ◌<◌, ◌^◌, min, List, [], ◌∷◌, ◌++◌, length}, Int.{Width, w16, w32, w64, to_be_bytes, int_gap}, List.{flat_map, AllByRecursion}}
use Rattle.stn_time.specs.Time.{horizon}
use Rattle.stn_net.specs.{Event.most_events, Difference.{Difference, IsBoundWithin}}
use Rattle.stn_records.specs.{Id.{SiteCounter, IsId}, declared.record.{Mark.{Mark, TheVariants.{Plain, Done}}, Record.Record}}
use Rattle.stn_wire.specs.declared.layout.Layout.{Layout, TheVariants.{Old, New}}

-- a number in two bytes, and in four
abbrev pub two : ℕ → List ℕ
two n = to_be_bytes w16 n

abbrev pub four : ℕ → List ℕ
four n = to_be_bytes w32 n

-- how long a text is, in four bytes, and the text
abbrev pub measured : List ℕ → List ℕ
measured text = four (length text) ++ text

-- how many values there are, in two bytes, and each of them
abbrev pub counted : {X : Type 0} → (X → List ℕ) → List X → List ℕ
counted spell values = two (length values) ++ flat_map spell values

-- so few values that two bytes count them, each of them valid
pub record AreCounted {X : Type 0} (Valid : X → Type 0) (values : List X) : Type 0 where
  pub few : length values < 2 ^ 16
  pub each : AllByRecursion Valid values

-- an id: its site and its counter
abbrev pub id_bytes : SiteCounter → List ℕ
id_bytes id = two id.site ++ two id.counter

-- the greatest time of the old version's frames
abbrev pub old_horizon : ℤ
old_horizon = pos 1000000000

-- the greatest difference of a layout, and how wide its sides are
abbrev pub layout_horizon : Layout → ℤ
layout_horizon Old = old_horizon
layout_horizon New = horizon

abbrev pub width_of : Layout → Width
width_of Old = w32
width_of New = w64

abbrev pub side_width : Layout → ℕ
side_width Old = 4
side_width New = 8

-- how far a difference lies above the least of a layout, and how far the greatest does
abbrev pub gap_in_layout : Layout → ℤ → ℕ
gap_in_layout layout side = int_gap (neg_ℤ (layout_horizon layout)) side

abbrev pub most_gap : Layout → ℕ
most_gap layout = gap_in_layout layout (layout_horizon layout)

-- a side of a bound: how far it lies above the least difference; an open side that lies beyond the layout's ends, as the end
abbrev pub side_bytes : Layout → ℤ → List ℕ
side_bytes layout side = to_be_bytes (width_of layout) (min (gap_in_layout layout side) (most_gap layout))

-- a bound: its events and its sides
abbrev pub bound_bytes : Layout → Difference → List ℕ
bound_bytes layout bound = two bound.from ++ (two bound.to ++ (side_bytes layout bound.lo ++ side_bytes layout bound.hi))

-- the sides that a record has in a layout: those of an execution lie within its ends; else these stand for open sides, which are
-- the ends of all times
abbrev pub IsLow : Layout → Mark → ℤ → Type 0
IsLow layout Plain side = (side ≡ neg_ℤ horizon) ⊎ ((neg_ℤ (layout_horizon layout) <ℤ side) × (side ≤ℤ layout_horizon layout))
IsLow layout Done side = (neg_ℤ (layout_horizon layout) ≤ℤ side) × (side ≤ℤ layout_horizon layout)

abbrev pub IsHigh : Layout → Mark → ℤ → Type 0
IsHigh layout Plain side = (side ≡ horizon) ⊎ ((neg_ℤ (layout_horizon layout) ≤ℤ side) × (side <ℤ layout_horizon layout))
IsHigh layout Done side = (neg_ℤ (layout_horizon layout) ≤ℤ side) × (side ≤ℤ layout_horizon layout)

-- a bound of some plan, with sides that the layout spells
pub record IsBound (layout : Layout) (mark : Mark) (bound : Difference) : Type 0 where
  pub sound : IsBoundWithin most_events bound
  pub lo : IsLow layout mark bound.lo
  pub hi : IsHigh layout mark bound.hi

abbrev pub mark_byte : Mark → ℕ
mark_byte Plain = 0
mark_byte Done = 1

-- a record: its mark and its bound
abbrev pub record_bytes : Layout → Record → List ℕ
record_bytes layout r = mark_byte r.mark ∷ bound_bytes layout r.bound

-- the record is of a bound of some plan
abbrev pub IsRecord : Layout → Record → Type 0
IsRecord layout r = IsBound layout r.mark r.bound

-- an addition: the id and the record
abbrev pub entry_bytes : Layout → SiteCounter × Record → List ℕ
entry_bytes layout entry = id_bytes entry.0 ++ record_bytes layout entry.1

pub record IsEntry (layout : Layout) (entry : SiteCounter × Record) : Type 0 where
  pub id : IsId entry.0
  pub said : IsRecord layout entry.1

-- how many bytes it has
abbrev pub entry_width : Layout → ℕ
entry_width layout = 9 + 2 * side_width layout

-- a withdrawal: the id alone
abbrev pub tomb_bytes : SiteCounter × Unit {0} → List ℕ
tomb_bytes entry = id_bytes entry.0

abbrev pub IsTomb : SiteCounter × Unit {0} → Type 0
IsTomb entry = IsId entry.0

-- an entry of an amendment: the id of the record, and the id that it replaces
abbrev pub amendment_bytes : SiteCounter × SiteCounter → List ℕ
amendment_bytes entry = id_bytes entry.0 ++ id_bytes entry.1

pub record AreIds (entry : SiteCounter × SiteCounter) : Type 0 where
  pub new : IsId entry.0
  pub replaced : IsId entry.1

-- a list of entries, where there are any
abbrev pub amendments_bytes : List (SiteCounter × SiteCounter) → List ℕ
amendments_bytes [] = []
amendments_bytes (entry ∷ rest) = counted amendment_bytes (entry ∷ rest)
