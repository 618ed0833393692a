-- The time of a text as a function, for definitions that compute with it. What each of its answers means is said by
-- `SpellsTime`, `IsTimeForm`, `IsTooFine` and `IsOutOfRange`, in the contract of `Ms::read`.
use Rattle.std.specs.{Prelude.{ℕ, Bool, false, ◌&&◌, ◌==◌, if◌then◌else◌, List, [], ◌∷◌, take, drop, ℤ, neg_ℤ, int_le, Option, Some, None, Result, Ok, Err}, Char.is_ascii_digit, List.prefix_len, Option.option_map, Str.{all_ascii_digits, Parse.starts_with_minus}}
use Rattle.stn_time.specs.{Text.{Parts, these_parts, is_fine, millis_of}, Time.horizon, declared.reading.TimeFault.{TimeFault, TheVariants.{Malformed, TooFine, OutOfRange}}}

-- the text without a leading `-`
abbrev pub without_minus : List ℕ → List ℕ
without_minus text = if starts_with_minus text then drop 1 text else text

-- one digit or more, and nothing else
abbrev pub is_numeral : List ℕ → Bool
is_numeral [] = false
is_numeral (digit ∷ digits) = all_ascii_digits (digit ∷ digits)

-- the digits after the point, of what follows the whole seconds: nothing, or a point and one digit or more
abbrev pub fraction_of : List ℕ → Option (List ℕ)
fraction_of [] = Some []
fraction_of (byte ∷ digits) = if (byte == 46) && is_numeral digits then Some digits else None

-- the digits that these bytes begin with are the whole seconds, and the fraction follows them
abbrev pub parts_with : Bool → List ℕ → Option Parts
parts_with negative bytes =
    let end = prefix_len is_ascii_digit bytes in
    if end == 0 then None else
    option_map (these_parts negative (take end bytes)) (fraction_of (drop end bytes))

-- the parts of a text, where it has the form of a time
abbrev pub parts_of : List ℕ → Option Parts
parts_of text = parts_with (starts_with_minus text) (without_minus text)

-- the number of milliseconds lies within the horizon
abbrev pub is_within_horizon : ℤ → Bool
is_within_horizon millis = int_le (neg_ℤ horizon) millis && int_le millis horizon

-- the time that the parts spell, or why there is none; Malformed where the text has no parts
abbrev pub time_of_found : Option Parts → Result ℤ TimeFault
time_of_found None = Err Malformed
time_of_found (Some parts) =
    if is_fine parts then
    (if is_within_horizon (millis_of parts) then Ok (millis_of parts) else Err OutOfRange)
    else Err TooFine

-- the time that a text spells, in milliseconds, or why there is none
unfoldable pub time_of : List ℕ → Result ℤ TimeFault
time_of text = time_of_found (parts_of text)
