-- The tokens of a line.
use Rattle.std.specs.Prelude.{ℕ, Bool, true, false, List, [], ◌∷◌}
use Rattle.stn_lift.specs.{declared.plan.{bytes.{Mark.Mark, Kind.Kind}, tokens.Token.Token}, Plan.Bytes.kind_of}
use Rattle.stn_lift.specs.declared.plan.bytes.Kind.TheVariants as kind
use Rattle.stn_lift.specs.declared.plan.tokens.Token.TheVariants as token

-- A token without where it lies in memory: a word, a mark of one byte, or a byte that may stand in comments alone.
pub data Lexeme : Type 0 where
  Word : (word : List ℕ) → Lexeme
  Sign : (mark : Mark) → Lexeme
  Stray : Lexeme

abbrev pub lexeme_of : Token → Lexeme
lexeme_of (token.Word word) = Word word.now
lexeme_of (token.Mark mark) = Sign mark
lexeme_of token.Stray = Stray

abbrev pub is_word_letter : Kind → Bool
is_word_letter kind.Space = false
is_word_letter kind.Comment = false
is_word_letter (kind.Mark mark) = false
is_word_letter kind.Letter = true
is_word_letter kind.Stray = false

abbrev pub is_word_byte : ℕ → Bool
is_word_byte b = is_word_letter (kind_of b)

-- the bytes begin with a letter of a word
unfoldable pub begins_word : List ℕ → Bool
begins_word [] = false
begins_word (b ∷ bytes) = is_word_byte b

-- the word that the tokens begin with, with one letter more at its front
abbrev pub with_longer_word : ℕ → List Lexeme → List Lexeme
with_longer_word b [] = []
with_longer_word b (Word word ∷ tokens) = Word (b ∷ word) ∷ tokens
with_longer_word b (Sign mark ∷ tokens) = Sign mark ∷ tokens
with_longer_word b (Stray ∷ tokens) = Stray ∷ tokens

-- a letter belongs to the word that begins after it, or else is a word
abbrev pub tokens_with_letter : ℕ → Bool → List Lexeme → List Lexeme
tokens_with_letter b true tokens = with_longer_word b tokens
tokens_with_letter b false tokens = Word (b ∷ []) ∷ tokens

-- the tokens with a byte before them, after which a word begins or not; a comment goes on up to the end of the line
abbrev pub tokens_with_byte : Kind → ℕ → Bool → List Lexeme → List Lexeme
tokens_with_byte kind.Space b more tokens = tokens
tokens_with_byte kind.Comment b more tokens = []
tokens_with_byte (kind.Mark mark) b more tokens = Sign mark ∷ tokens
tokens_with_byte kind.Letter b more tokens = tokens_with_letter b more tokens
tokens_with_byte kind.Stray b more tokens = Stray ∷ tokens

-- the tokens of a line
unfoldable pub tokens_of : List ℕ → List Lexeme
tokens_of [] = []
tokens_of (b ∷ bytes) = tokens_with_byte (kind_of b) b (begins_word bytes) (tokens_of bytes)
