-- Bytes of texts, and how many of them a text has.
use Rattle.std.specs.Prelude.{ℕ, Bool, nat_le, ◌&&◌, ◌||◌, ◌==◌}

-- the byte that ends a line
abbrev pub line_feed : ℕ
line_feed = 10

-- the byte that begins a comment, `;`
abbrev pub semicolon : ℕ
semicolon = 59

-- the text of a domain or of a plan has at most so many bytes
abbrev pub most_text : ℕ
most_text = 65536

-- tab, line feed, vertical tab, form feed, carriage return, and space
abbrev pub is_space : ℕ → Bool
is_space b = (nat_le 9 b && nat_le b 13) || (b == 32)

-- the printing bytes of ASCII but for the space, `!` to `~`
abbrev pub is_visible : ℕ → Bool
is_visible b = nat_le 33 b && nat_le b 126
