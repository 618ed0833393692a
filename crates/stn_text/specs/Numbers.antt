-- Numbers of one to five decimal digits.
use Rattle.std.specs.{Prelude.{ℕ, ◌&&◌, List, length, nat_le, nat_lt, Option, Some, None, if◌then◌else◌}, Str.{all_ascii_digits, Parse.digits_value}}

-- a number has at most so many digits
abbrev pub most_digits : ℕ
most_digits = 5

-- the number that a word of one to five decimal digits is
unfoldable pub number_of : List ℕ → Option ℕ
number_of word = if (nat_lt 0 (length word) && nat_le (length word) most_digits) && all_ascii_digits word
    then Some (digits_value 10 word) else None
