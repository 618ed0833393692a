-- The tokens of what is left of a line.
use Rattle.std.{proofs.Common.{rules, ◌≡◌, ℕ, suc, ◌+◌, Bool, true, false, List, [], ◌∷◌, take, drop, refl, arith}, specs.List.prefix_len}
use Rattle.stn_lift.specs.{declared.plan.bytes.Kind.Kind, Plan.{Bytes.kind_of, Tokens.{Word, is_word_letter, is_word_byte, begins_word, tokens_with_letter, tokens_with_byte, tokens_of}}}
use Rattle.stn_lift.specs.declared.plan.bytes.Kind.TheVariants as kind

-- a byte of a kind before the tokens after it
pub tokens_before : (rest : List ℕ) (b : ℕ) (bytes : List ℕ) (found : Kind) → rest ≡ b ∷ bytes → found ≡ kind_of b
    → tokens_of rest ≡ tokens_with_byte found b (begins_word bytes) (tokens_of bytes)
unfolding tokens_of
tokens_before rest b bytes found e k = rw (e, k) refl

is_letter-Letter : {found : Kind} → is_word_letter found ≡ true → found ≡ kind.Letter
is_letter-Letter e = search rules

-- a letter belongs to the word after it
tokens_of-letter : (b : ℕ) (bytes : List ℕ) → is_word_byte b ≡ true → tokens_of (b ∷ bytes) ≡ tokens_with_letter b (begins_word bytes) (tokens_of bytes)
unfolding tokens_of
tokens_of-letter b bytes e = cc (is_letter-Letter e)

-- the tokens are one word, which goes up to a place, and the tokens after it
abbrev BeginsWith : List ℕ → List ℕ → List ℕ → Type 0
BeginsWith bytes word behind = tokens_of bytes ≡ Word word ∷ tokens_of behind

-- the letters after the first one belong to its word
tokens_of-step : (goes_on : Bool) (b c : ℕ) (bytes : List ℕ) → is_word_byte b ≡ true → is_word_byte c ≡ goes_on
    → (goes_on ≡ true → BeginsWith (c ∷ bytes) (c ∷ take (prefix_len is_word_byte bytes) bytes) (drop (prefix_len is_word_byte bytes) bytes))
    → BeginsWith (b ∷ c ∷ bytes) (b ∷ take (prefix_len is_word_byte (c ∷ bytes)) (c ∷ bytes)) (drop (prefix_len is_word_byte (c ∷ bytes)) (c ∷ bytes))
unfolding begins_word
tokens_of-step true b c bytes e f more =
    let count : 1 + prefix_len is_word_byte bytes ≡ suc (prefix_len is_word_byte bytes) = omega arith in
    let word : begins_word (c ∷ bytes) ≡ true = f in
    search (rules, tokens_of-letter)
tokens_of-step false b c bytes e f more = search (rules, tokens_of-letter)

-- the letters at the front are one word
tokens_of-run : (b : ℕ) (bytes : List ℕ) → is_word_byte b ≡ true
    → BeginsWith (b ∷ bytes) (b ∷ take (prefix_len is_word_byte bytes) bytes) (drop (prefix_len is_word_byte bytes) bytes)
unfolding begins_word
tokens_of-run b [] e = tokens_of-letter b [] e
tokens_of-run b (c ∷ bytes) e = tokens_of-step (is_word_byte c) b c bytes e refl (λ more. tokens_of-run c bytes more)

-- the word that a byte of a word begins, and the tokens after it
pub tokens_of-letters : {rest : List ℕ} {b : ℕ} {bytes : List ℕ} → rest ≡ b ∷ bytes → is_word_byte b ≡ true
    → tokens_of rest ≡ Word (take (prefix_len is_word_byte rest) rest) ∷ tokens_of (drop (prefix_len is_word_byte rest) rest)
tokens_of-letters r e = search (rules, tokens_of-run)
