-- The rows before a byte of each kind.
use Rattle.std.proofs.{lemmas.{List.{drop_all, drop_more}}, Common.{rules, ◌≡◌, ◌≢◌, ℕ, suc, ◌+◌, ◌<◌, ◌≤◌, Bool, true, false, eqb, List, [], ◌∷◌, length, get_or, take, drop, refl, arith, add-one, drop-cons, ◌⊎◌}}
use Rattle.stn_pddl.specs.{declared.tree.bytes.Kind.{Kind, TheVariants.{Blank, Open, Close, Letter, Stray}}, Tree.{Bytes.{kind_of, kind_in, comment_after, line_after}, Trees.{Word, Group, End, Rows, behind_row, before_open, before_close, before_letter, is_letter, begins_word, word_len, rows_from}}}

-- no line feed and no semicolon is a token
pub lf-blank : (b : ℕ) → kind_of b ≢ Blank → eqb b 10 ≡ false
unfolding kind_of
lf-blank b h = search rules

pub semicolon-blank : (b : ℕ) → kind_of b ≢ Blank → eqb b 59 ≡ false
unfolding kind_of
semicolon-blank b h = search rules

-- after a token no comment goes on, and the line is the same
pub comment_after-token : (b : ℕ) → kind_of b ≢ Blank → comment_after false b ≡ false
unfolding comment_after
comment_after-token b h = rw (lf-blank b h, semicolon-blank b h) refl

pub line_after-token : (line b : ℕ) → kind_of b ≢ Blank → line_after line b ≡ line
unfolding line_after
line_after-token line b h = rw (lf-blank b h) refl

module _ (line b : ℕ) (bytes : List ℕ) where
  pub rows-open : (comment : Bool) → kind_in comment b ≡ Open → rows_from comment line (b ∷ bytes) ≡ before_open line (rows_from false line bytes)
  unfolding rows_from
  rows-open comment is = search (rules, comment_after-token, line_after-token)

  pub rows-close : (comment : Bool) → kind_in comment b ≡ Close → rows_from comment line (b ∷ bytes) ≡ before_close (rows_from false line bytes)
  unfolding rows_from
  rows-close comment is = search (rules, comment_after-token, line_after-token)

  pub rows-letter : kind_of b ≡ Letter → rows_from false line (b ∷ bytes) ≡ before_letter line b (begins_word bytes) (rows_from false line bytes)
  unfolding rows_from
  rows-letter is = grind (arith, comment_after-token, line_after-token)

  pub rows-blank : (comment : Bool) → kind_in comment b ≡ Blank → rows_from comment line (b ∷ bytes) ≡ rows_from (comment_after comment b) (line_after line b) bytes
  unfolding rows_from
  rows-blank comment is = rw is refl

  pub rows-stray : (comment : Bool) → kind_in comment b ≡ Stray → rows_from comment line (b ∷ bytes) ≡ rows_from (comment_after comment b) (line_after line b) bytes
  unfolding rows_from
  rows-stray comment is = rw is refl

-- the rows before a word
abbrev pub before_word : ℕ → List ℕ → Rows → Rows
before_word line word rows = record { row = Word line word rows.row; around = rows.around }

letter-is : {k : Kind} → is_letter k ≡ true → k ≡ Letter
letter-is h = search rules

pub word_len-letter : (b : ℕ) (bytes : List ℕ) → kind_of b ≡ Letter → word_len (b ∷ bytes) ≡ suc (word_len bytes)
unfolding word_len
word_len-letter b bytes is = rw (is, add-one) refl

pub word_len-none : (bytes : List ℕ) → begins_word bytes ≡ false → word_len bytes ≡ 0
unfolding begins_word word_len
word_len-none bytes h = search rules

pub begins-letter : (b : ℕ) (bytes : List ℕ) → begins_word (b ∷ bytes) ≡ true → kind_of b ≡ Letter
unfolding begins_word
begins-letter b bytes h = letter-is h

pub letter-begins : (b : ℕ) (bytes : List ℕ) → kind_of b ≡ Letter → begins_word (b ∷ bytes) ≡ true
unfolding begins_word
letter-begins b bytes is = rw is refl

begins-none : begins_word [] ≢ true
unfolding begins_word
begins-none h = cc

-- the word goes on, or ends here
word-on : {line b : ℕ} (bytes : List ℕ) {more : Bool} → begins_word bytes ≡ more
    → (more ≡ true → rows_from false line bytes ≡ before_word line (take (word_len bytes) bytes) (rows_from false line (drop (word_len bytes) bytes)))
    → before_letter line b more (rows_from false line bytes) ≡ before_word line (b ∷ take (word_len bytes) bytes) (rows_from false line (drop (word_len bytes) bytes))
word-on bytes is goes_on = search (rules, word_len-none)

pub rows-word : (line : ℕ) (bytes : List ℕ) → begins_word bytes ≡ true → rows_from false line bytes ≡ before_word line (take (word_len bytes) bytes) (rows_from false line (drop (word_len bytes) bytes))
rows-word line [] begins = absurd (begins-none begins)
rows-word line (b ∷ bytes) begins = grind (arith, begins-letter, word_len-letter, rows-letter, word-on, (rows-word line bytes))

pub word_len-positive : (bytes : List ℕ) → begins_word bytes ≡ true → 0 < word_len bytes
word_len-positive [] begins = absurd (begins-none begins)
word_len-positive (b ∷ bytes) begins = search (rules, word_len-letter, begins-letter)

-- a word in its two parts, as the code splits it
pub split-word : {line n : ℕ} (bytes : List ℕ) {word rest : List ℕ} → begins_word bytes ≡ true → n ≡ word_len bytes → word ≡ take n bytes → rest ≡ drop n bytes
    → ((rows_from false line bytes).row ≡ Word line word (rows_from false line rest).row) × (behind_row (rows_from false line rest) ≡ behind_row (rows_from false line bytes))
split-word bytes begins len front back = search (rules, rows-word)

module _ (line i : ℕ) (bytes rest : List ℕ) (rows : Rows) (comment : Bool) (within : i < length bytes) (left : rest ≡ drop (i + 1) bytes) (same : rows_from comment line (drop i bytes) ≡ rows) where
  -- the same, with the byte at i in front
  here : rows ≡ rows_from comment line (get_or bytes i 0 ∷ rest)
  here = cc (drop_more bytes i 0 within)

  pub opened : kind_in comment (get_or bytes i 0) ≡ Open
      → (rows.row ≡ Group line (rows_from false line rest).row (behind_row (rows_from false line rest)).row) × (behind_row (behind_row (rows_from false line rest)) ≡ behind_row rows)
  opened is = search (rules, here, rows-open)

  pub closed : kind_in comment (get_or bytes i 0) ≡ Close → (rows.row ≡ End) × (rows_from false line rest ≡ behind_row rows)
  closed is = search (rules, here, rows-close)

  pub passed : {k : Kind} → k ≡ kind_in comment (get_or bytes i 0) → (k ≡ Blank) ⊎ (k ≡ Stray)
      → rows_from (comment_after comment (get_or bytes i 0)) (line_after line (get_or bytes i 0)) rest ≡ rows
  passed kind p = search (rules, here, rows-blank, rows-stray)

-- a letter stands outside comments, and a word begins there
pub letter-outside : (comment : Bool) (b : ℕ) → kind_in comment b ≡ Letter → (comment ≡ false) × (kind_of b ≡ Letter)
letter-outside comment b is = search rules

pub begins-at : {i : ℕ} (bytes : List ℕ) {word : List ℕ} (comment : Bool) → i < length bytes → word ≡ drop i bytes → kind_in comment (get_or bytes i 0) ≡ Letter → begins_word word ≡ true
begins-at bytes comment within is letter = search (rules, drop-cons, letter-begins)

pub line_after-most : (line b : ℕ) → line_after line b ≤ line + 1
unfolding line_after
line_after-most line b = search rules

-- the end of the text ends every row
pub at-end : (line i : ℕ) (bytes : List ℕ) (rows : Rows) (comment : Bool) → length bytes ≤ i → rows_from comment line (drop i bytes) ≡ rows
    → (rows.row ≡ End) × (rows_from false line [] ≡ behind_row rows)
unfolding rows_from
at-end line i bytes rows comment over same = search (rules, drop_all)
