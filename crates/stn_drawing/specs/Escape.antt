-- A text as SVG shows it.
use Rattle.std.specs.{Prelude.{ℕ, ◌-◌, ◌==◌, ◌&&◌, ◌||◌, nat_lt, nat_le, not, Bool, true, List, [], ◌∷◌, ◌++◌, take, length, codes, if◌then◌else◌}, List.flat_map, Str.bytes_eq}

-- a byte that ASCII prints, the space too
abbrev pub is_printed : ℕ → Bool
is_printed byte = nat_le 32 byte && nat_lt byte 127

-- a byte of a text: `&`, `<`, `>` and `"` by their names, and `?` for what ASCII doesn't print
abbrev pub escaped : ℕ → List ℕ
escaped byte =
    if byte == 38 then codes "&amp;"
    else (if byte == 60 then codes "&lt;"
    else (if byte == 62 then codes "&gt;"
    else (if byte == 34 then codes "&quot;"
    else (if is_printed byte then byte ∷ [] else codes "?"))))

-- a text, byte by byte
abbrev pub shown : List ℕ → List ℕ
shown text = flat_map escaped text

-- the text, if it has at most so many bytes, and else as many but one, and an ellipsis
abbrev pub cut : ℕ → List ℕ → List ℕ
cut most text = if nat_lt most (length text) then shown (take (most - 1) text) ++ codes "&#8230;" else shown text

-- a byte that ASCII prints, other than `<`, `>` and `"`
abbrev pub is_plain : ℕ → Bool
is_plain byte = is_printed byte && (not (byte == 60) && (not (byte == 62) && not (byte == 34)))

abbrev pub begins_with : List ℕ → List ℕ → Bool
begins_with word text = bytes_eq (take (length word) text) word

-- the text begins with what stands after the `&` of one of the four names
abbrev pub begins_name : List ℕ → Bool
begins_name text = begins_with (codes "amp;") text || (begins_with (codes "lt;") text || (begins_with (codes "gt;") text || begins_with (codes "quot;") text))

-- each `&` begins one of the names
abbrev pub are_named : List ℕ → Bool
are_named [] = true
are_named (byte ∷ rest) = (not (byte == 38) || begins_name rest) && are_named rest
