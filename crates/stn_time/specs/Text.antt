-- The text of a time in seconds, and the number of milliseconds that it spells.
-- `-0.5` has a `-`, the whole digits `0` and the further digit `5`, and spells -500.
-- Of std: `IsNumeral 10` is one decimal digit or more and nothing else, `AllDigits 10` allows none, and
-- `digits_value 10` is the number that decimal digits write.
use Rattle.std.specs.{Prelude.{◌≡◌, ℕ, ◌+◌, ◌*◌, ◌/◌, ◌%◌, Bool, ◌==◌, if◌then◌else◌, List, [], ◌∷◌, ◌++◌, map, take, drop, ℤ, pos, neg_ℤ, unsigned_abs, IsTrue, IsFalse, codes}, Fmt.sign_text, Int.{is_negative, Digits.digits_of}, List.list_all, Str.Parse.{AllDigits, IsNumeral, digits_value}}
use Rattle.stn_time.specs.Time.{IsWithinHorizon}

-- the parts of a time text: whether a `-` stands first, the digits of the whole seconds, and the digits after the
-- point, none where there is no point
pub record Parts : Type 0 where
  pub negative : Bool
  pub whole : List ℕ
  pub fraction : List ℕ

-- the parts, given one by one
abbrev pub these_parts : Bool → List ℕ → List ℕ → Parts
these_parts negative whole fraction = record { negative = negative; whole = whole; fraction = fraction }

-- a point and the digits after it; nothing where there are no digits
abbrev pub point_text : List ℕ → List ℕ
point_text [] = []
point_text (digit ∷ digits) = codes "." ++ (digit ∷ digits)

-- the text that has these parts
abbrev pub text_of : Parts → List ℕ
text_of parts = sign_text parts.negative ++ (parts.whole ++ point_text parts.fraction)

-- the text has the form of a time, with these parts: one whole digit or more, and only digits after the point
pub record HasParts (text : List ℕ) (parts : Parts) : Type 0 where
  pub whole : IsNumeral 10 parts.whole
  pub fraction : AllDigits 10 parts.fraction
  pub spelling : text ≡ text_of parts

-- the text has the form of a time
abbrev pub IsTimeForm : List ℕ → Type 0
IsTimeForm text = (parts : Parts) × HasParts text parts

-- each digit past the third after the point is `0`
abbrev pub is_fine : Parts → Bool
is_fine parts = list_all (λ digit. digit == 48) (drop 3 parts.fraction)

-- the first three digits after the point, with zeros in place of those that are missing, as a number
abbrev pub thousandths_of : List ℕ → ℕ
thousandths_of fraction = digits_value 10 (take 3 (fraction ++ codes "000"))

-- the milliseconds that the digits spell, without their sign
abbrev pub size_of : Parts → ℕ
size_of parts = 1000 * digits_value 10 parts.whole + thousandths_of parts.fraction

-- the milliseconds that the parts spell
abbrev pub millis_of : Parts → ℤ
millis_of parts = if parts.negative then neg_ℤ (pos (size_of parts)) else pos (size_of parts)

-- the text is a time text, and spells this number of milliseconds, however large
pub record SpellsTime (text : List ℕ) (millis : ℤ) : Type 0 where
  pub parts : Parts
  pub form : HasParts text parts
  pub fine : IsTrue (is_fine parts)
  pub number : millis ≡ millis_of parts

-- the text has the form of a time, and some digit past the third after its point is not `0`
pub record IsTooFine (text : List ℕ) : Type 0 where
  pub parts : Parts
  pub form : HasParts text parts
  pub too_fine : IsFalse (is_fine parts)

-- the text spells a number of milliseconds beyond the horizon
pub record IsOutOfRange (text : List ℕ) : Type 0 where
  pub millis : ℤ
  pub spelled : SpellsTime text millis
  pub beyond : ¬ IsWithinHorizon millis

-- the decimal digits of a number: `0` for zero, else without leading zeros
abbrev pub whole_text : ℕ → List ℕ
whole_text n = if n == 0 then codes "0" else map (λ digit. 48 + digit) (digits_of 10 n)

-- the three decimal digits of a number below 1,000
abbrev pub three_digits : ℕ → List ℕ
three_digits n = (48 + n / 100) ∷ ((48 + n / 10 % 10) ∷ ((48 + n % 10) ∷ []))

-- the printed form of a number of milliseconds: `-` for a negative number, the whole seconds, a point, three digits
unfoldable pub printed : ℤ → List ℕ
printed millis =
    let size = unsigned_abs millis in
    sign_text (is_negative millis) ++ (whole_text (size / 1000) ++ (codes "." ++ three_digits (size % 1000)))
