-- A row of trees that is written reads as that row.
use Rattle.std.proofs.{lemmas.{Grind.common_steps, Bool.Decides.nat_tests}, Common.{rules, ◌≡◌, ◌≢◌, ℕ, zero, suc, ◌+◌, ◌-◌, ◌<◌, ◌≤◌, Bool, true, false, cond, nat_lt, List, [], ◌∷◌, ◌++◌, length, replicate, Result, Ok, Err, refl, ap, ◌∙◌, append_assoc, arith}}
use Rattle.stn_text.specs.Bytes.{line_feed}
use Rattle.stn_pddl.{specs.{declared.tree.{bytes.Kind.TheVariants.{Blank, Letter}, scan.{TreeFault.{TreeFault, TheVariants.TooDeep}, Place.{Place, TheVariants.{Before, Inside, After}}}}, Tree.{Bytes.{kind_of, comment_after, line_after}, Scan.{most_text, place_after, scanned, tree_of}, Trees.{Trees, End, Word, Group, Rows, before_open, begins_word, word_len, rows_from}}}, proofs.tree.{Rows.{comment_after-token, line_after-token, rows-open, rows-close, rows-blank, rows-word}, Scanned.scanned-next, Faults.tree_of-Ok}}
use Rattle.stn_plan_laws.specs.Tree.Written.{end_line, written, IsWritable}

-- a row, and one around
abbrev with_row : Trees → Rows → Rows
with_row row rows = record { row = row; around = rows.row ∷ rows.around }

-- line feeds
feeds : ℕ → List ℕ
feeds count = replicate count line_feed

next_line : (at count : ℕ) → (at + 1) + count ≡ at + suc count
next_line at count = omega arith

rows-feeds : (count at : ℕ) (bytes : List ℕ) → rows_from false at (feeds count ++ bytes) ≡ rows_from false (at + count) bytes
unfolding feeds comment_after line_after kind_of
rows-feeds zero at bytes = search rules
rows-feeds (suc count) at bytes = search (rules, rows-blank, (rows-feeds count (at + 1) bytes))

scanned-feeds : (count at : ℕ) (place : Place) (bytes : List ℕ) → scanned false at place (feeds count ++ bytes) ≡ scanned false (at + count) place bytes
unfolding feeds comment_after line_after kind_of place_after
scanned-feeds zero at place bytes = search rules
scanned-feeds (suc count) at place bytes =
    cc (scanned-next false at 10 place place (feeds count ++ bytes) refl, next_line at count, (scanned-feeds count (at + 1) place bytes))

-- a space
rows-space : (line : ℕ) (bytes : List ℕ) → rows_from false line (32 ∷ bytes) ≡ rows_from false line bytes
unfolding comment_after line_after kind_of
rows-space line bytes = rows-blank line 32 bytes false refl

scanned-space : (line : ℕ) (place : Place) (bytes : List ℕ) → scanned false line place (32 ∷ bytes) ≡ scanned false line place bytes
unfolding comment_after line_after kind_of place_after
scanned-space line place bytes = scanned-next false line 32 place place bytes refl

-- a word and a space
letter-of : (b : ℕ) (word : List ℕ) → word_len (b ∷ word) ≡ suc (length word) → (kind_of b ≡ Letter) × (word_len word ≡ length word)
unfolding word_len
letter-of b word is = search rules

word_len-space : (word bytes : List ℕ) → word_len word ≡ length word → word_len (word ++ 32 ∷ bytes) ≡ length word
unfolding word_len kind_of
word_len-space [] bytes is = refl
word_len-space (b ∷ word) bytes is = search (rules, (word_len-space word bytes))

begins-space : (word bytes : List ℕ) → begins_word word ≡ true → begins_word (word ++ bytes) ≡ true
unfolding begins_word
begins-space word bytes is = search rules

letter-inside : (line b depth : ℕ) → kind_of b ≡ Letter → place_after (kind_of b) line (Inside depth) ≡ Ok (Inside depth)
unfolding place_after
letter-inside line b depth letter = rw letter refl

scanned-letters : (line depth : ℕ) (word bytes : List ℕ) → word_len word ≡ length word → scanned false line (Inside depth) (word ++ bytes) ≡ scanned false line (Inside depth) bytes
scanned-letters line depth [] bytes is = refl
scanned-letters line depth (b ∷ word) bytes is =
    let both = letter-of b word is in
    let token : kind_of b ≢ Blank = λ e. let letter = both.0 in cc in
    cc (scanned-next false line b (Inside depth) (Inside depth) (word ++ bytes) (letter-inside line b depth both.0), comment_after-token b token, line_after-token line b token, scanned-letters line depth word bytes both.1)

-- how a tree is written before what comes after it
word-then : (feed word next tail : List ℕ) → (feed ++ (word ++ 32 ∷ next)) ++ tail ≡ feed ++ (word ++ 32 ∷ (next ++ tail))
word-then feed word next tail = simp append_assoc

group-then : (feed children next tail : List ℕ) → (feed ++ (40 ∷ (children ++ (41 ∷ next)))) ++ tail ≡ feed ++ (40 ∷ (children ++ (41 ∷ (next ++ tail))))
group-then feed children next tail = simp append_assoc

-- the line that is reached by line feeds
reached : (at line : ℕ) → at ≤ line → at + (line - at) ≡ line
reached at line le = omega arith

rows-group : (line : ℕ) (bytes : List ℕ) → rows_from false line (40 ∷ bytes) ≡ before_open line (rows_from false line bytes)
unfolding kind_of
rows-group line bytes = rows-open line 40 bytes false refl

-- a row that is written, and the bracket that closes it
pub rows-written : (depth at : ℕ) (row : Trees) (tail : List ℕ) → IsWritable depth at row
    → rows_from false at (written at row ++ 41 ∷ tail) ≡ with_row row (rows_from false (end_line at row) tail)
unfolding written end_line IsWritable kind_of feeds
rows-written depth at End tail is = rows-close at 41 tail false refl
rows-written depth at (Word line word next) tail is =
    grind (arith, common_steps, word-then, rows-feeds, (rows-written depth line next tail is.2), word_len-space, rows-word, begins-space, rows-space)
rows-written depth at (Group line children next) tail is =
    let last = end_line line children in
    let behind : List ℕ = written last next ++ 41 ∷ tail in
    let inside : List ℕ = written line children ++ 41 ∷ behind in
    cc (group-then (feeds (line - at)) (written line children) (written last next) (41 ∷ tail), rows-feeds (line - at) at (40 ∷ inside), reached at line is.0, rows-group line inside, rows-written (depth - 1) line children behind is.2, rows-written depth last next tail is.3)

-- a bracket opens, or closes
opened : (line depth : ℕ) (bytes : List ℕ) → depth < 32 → scanned false line (Inside depth) (40 ∷ bytes) ≡ scanned false line (Inside (depth + 1)) bytes
unfolding kind_of place_after comment_after line_after
opened line depth bytes few = scanned-next false line 40 (Inside depth) (Inside (depth + 1)) bytes (by (nat_lt depth 32) (grind (arith, nat_tests)))
  where
    by : (fits : Bool) → fits ≡ true → cond fits (Ok (Inside (depth + 1))) (Err (TooDeep line)) ≡ Ok (Inside (depth + 1))
    by true is = refl
    by false is = cc

closed : (line depth : ℕ) (bytes : List ℕ) → 0 < depth → scanned false line (Inside (depth + 1)) (41 ∷ bytes) ≡ scanned false line (Inside depth) bytes
unfolding kind_of place_after comment_after line_after
closed line depth bytes some = scanned-next false line 41 (Inside (depth + 1)) (Inside depth) bytes (by (nat_lt 1 (depth + 1)) (grind (arith, nat_tests)))
  where
    by : (deep : Bool) → deep ≡ true → cond {A = Result Place TreeFault} deep (Ok (Inside ((depth + 1) - 1))) (Ok After) ≡ Ok (Inside depth)
    by true is = let same : (depth + 1) - 1 ≡ depth = omega arith in rw same refl
    by false is = cc

scanned-written : (room depth at : ℕ) (row : Trees) (tail : List ℕ) → IsWritable room at row → 0 < depth → depth + room ≤ 32
    → scanned false at (Inside depth) (written at row ++ tail) ≡ scanned false (end_line at row) (Inside depth) tail
unfolding written end_line IsWritable feeds
scanned-written room depth at End tail is some few = refl
scanned-written room depth at (Word line word next) tail is some few =
    search (rules, word-then, scanned-feeds, scanned-letters, scanned-space, (scanned-written room depth line next tail is.2 some few))
scanned-written room depth at (Group line children next) tail is some few =
    let last = end_line line children in
    let behind : List ℕ = written last next ++ tail in
    let inside : List ℕ = written line children ++ 41 ∷ behind in
    ap (scanned false at (Inside depth)) (group-then (feeds (line - at)) (written line children) (written last next) tail)
    ∙ scanned-feeds (line - at) at (Inside depth) (40 ∷ inside)
    ∙ ap (λ n. scanned false n (Inside depth) (40 ∷ inside)) (reached at line is.0)
    ∙ opened line depth inside (omega arith)
    ∙ scanned-written (room - 1) (depth + 1) line children (41 ∷ behind) is.2 (omega arith) (omega arith)
    ∙ closed last depth behind some
    ∙ scanned-written room depth last next tail is.3 some few

-- one list
module _ (line : ℕ) (children : Trees) where
  text : List ℕ
  text = written 1 (Group line children End)

  module _ (is : IsWritable 32 1 (Group line children End)) where
    parts : (1 ≤ line) × (0 < 32) × IsWritable 31 line children × IsWritable 32 (end_line line children) End
    unfolding IsWritable
    parts = is

    rows-list : rows_from false 1 text ≡ record { row = Group line children End; around = [] }
    unfolding text written rows_from feeds
    rows-list = search (rules, rows-feeds, reached, parts, rows-group, rows-written)

    scanned-list : scanned false 1 Before text ≡ Ok After
    unfolding text written scanned feeds kind_of place_after comment_after line_after
    scanned-list = search (rules, scanned-feeds, reached, parts, scanned-written)

  pub written_read : IsWritable 32 1 (Group line children End) → length (written 1 (Group line children End)) ≤ most_text
      → tree_of (written 1 (Group line children End)) ≡ Ok (Group line children End)
  unfolding text
  written_read is short = cc (tree_of-Ok text After short (scanned-list is), rows-list is)
