-- Each tree of a text can be written.
use Rattle.std.proofs.{Common.{rules, ◌≡◌, ℕ, ◌+◌, ◌-◌, ◌<◌, ◌≤◌, Bool, true, false, cond, nat_lt, List, [], ◌∷◌, Result, Ok, Err, refl, arith}, lemmas.Bool.ltb-true}
use Rattle.stn_text.specs.Faults.{◌>>=◌}
use Rattle.stn_pddl.{specs.{declared.tree.{bytes.Kind.{Kind, TheVariants.{Blank, Open, Close, Letter, Stray}}, scan.{TreeFault.{TreeFault, TheVariants.TooDeep}, Place.{Place, TheVariants.{Before, Inside, After}}}}, Tree.{Bytes.{kind_of, kind_in, comment_after, line_after}, Scan.{place_after, scanned, tree_of}, Trees.{Trees, End, Word, Group, Rows, before_byte, begins_word, word_len, rows_from}}}, proofs.tree.{Rows.{letter-outside, word_len-letter}, Faults.tree_of-rows}}
use Rattle.stn_plan_laws.specs.Tree.Written.{end_line, IsWord, IsWritable}

-- rows that lie in one another can be written, the innermost from a line on and each other one from where that ends
unfoldable AreWritable : ℕ → ℕ → List Trees → Type 0
AreWritable depth at [] = Unit {0}
AreWritable depth at (row ∷ rows) = IsWritable (32 - depth) at row × AreWritable (depth - 1) (end_line at row) rows

depth_of : Place → ℕ
depth_of Before = 0
depth_of (Inside depth) = depth
depth_of After = 0

earlier : (depth at before : ℕ) (rows : List Trees) → before ≤ at → AreWritable depth at rows → AreWritable depth before rows
unfolding AreWritable IsWritable end_line
earlier depth at before [] le are = tt
earlier depth at before (End ∷ rows) le are = (tt, earlier (depth - 1) at before rows le are.1)
earlier depth at before (Word line word next ∷ rows) le are = search rules
earlier depth at before (Group line children next ∷ rows) le are = search rules

line_after-least : (line b : ℕ) → line ≤ line_after line b
unfolding line_after
line_after-least line b = search rules

-- a list in front of the rows
opened-rows : (depth line : ℕ) (more : Bool) (b : ℕ) (row : Trees) (around : List Trees) → depth < 32 → AreWritable (depth + 1) line (row ∷ around)
    → AreWritable depth line ((before_byte Open line b more (record { row = row; around = around })).row ∷ (before_byte Open line b more (record { row = row; around = around })).around)
unfolding AreWritable IsWritable end_line
opened-rows depth line more b row around few are = search rules

-- a letter in front of the rows
one_letter : (b : ℕ) → kind_of b ≡ Letter → IsWord (b ∷ [])
unfolding begins_word word_len
one_letter b is = rw is (refl, refl)

letter-more : (b : ℕ) (word : List ℕ) → kind_of b ≡ Letter → IsWord word → IsWord (b ∷ word)
unfolding begins_word
letter-more b word is word_is = search (rules, word_len-letter)

letter-rows : (depth line b : ℕ) (more : Bool) (row : Trees) (around : List Trees) → kind_of b ≡ Letter → AreWritable depth line (row ∷ around)
    → AreWritable depth line ((before_byte Letter line b more (record { row = row; around = around })).row ∷ (before_byte Letter line b more (record { row = row; around = around })).around)
unfolding AreWritable IsWritable end_line
letter-rows depth line b more row around is are = search (rules, letter-more, one_letter)

-- the rows of a scan without a fault
module _ (f : Place → Result Place TreeFault) (end : Place) (line b : ℕ) (more : Bool) (rows : Rows) where
  abbrev Here : ℕ → Kind → Type 0
  Here depth kind = AreWritable depth line ((before_byte kind line b more rows).row ∷ (before_byte kind line b more rows).around)

  refused : {B : Type 0} {fault : TreeFault} → Err fault ≡ Ok end → B
  refused is = cc

  abbrev Behind : Type 0
  Behind = (next : Place) → f next ≡ Ok end → AreWritable (depth_of next) line (rows.row ∷ rows.around)

  opened-place : (place : Place) → Behind → (place_after Open line place >>= f) ≡ Ok end → Here (depth_of place) Open
  unfolding place_after depth_of
  opened-place Before behind is = opened-rows 0 line more b rows.row rows.around (omega arith) (behind (Inside 1) is)
  opened-place (Inside depth) behind is = by (nat_lt depth 32) refl is
    where
      by : (fits : Bool) → nat_lt depth 32 ≡ fits → (cond fits (Ok (Inside (depth + 1))) (Err (TooDeep line)) >>= f) ≡ Ok end → Here depth Open
      by true few e = opened-rows depth line more b rows.row rows.around (ltb-true _ _ few) (behind (Inside (depth + 1)) e)
      by false few e = refused e
  opened-place After behind is = refused is

  closed-place : (place : Place) → Behind → (place_after Close line place >>= f) ≡ Ok end → Here (depth_of place) Close
  unfolding place_after depth_of AreWritable IsWritable end_line
  closed-place place behind is = search (rules)

  byte-place : (kind : Kind) (place : Place) → (kind ≡ Letter → kind_of b ≡ Letter) → Behind → (place_after kind line place >>= f) ≡ Ok end → Here (depth_of place) kind
  unfolding place_after depth_of
  byte-place Blank place letter behind is = behind place is
  byte-place Open place letter behind is = opened-place place behind is
  byte-place Close place letter behind is = closed-place place behind is
  byte-place Letter Before letter behind is = refused is
  byte-place Letter (Inside depth) letter behind is = letter-rows depth line b more rows.row rows.around (letter refl) (behind (Inside depth) is)
  byte-place Letter After letter behind is = refused is
  byte-place Stray place letter behind is = refused is

rows-writable : (bytes : List ℕ) (comment : Bool) (line : ℕ) (place end : Place) → scanned comment line place bytes ≡ Ok end
    → AreWritable (depth_of place) line ((rows_from comment line bytes).row ∷ (rows_from comment line bytes).around)
unfolding scanned rows_from AreWritable IsWritable end_line
rows-writable [] comment line place end is = (tt, tt)
rows-writable (b ∷ bytes) comment line place end is =
    let rows = rows_from (comment_after comment b) (line_after line b) bytes in
    byte-place (λ next. scanned (comment_after comment b) (line_after line b) next bytes) end line b (begins_word bytes) rows (kind_in comment b) place
    (λ letter. (letter-outside comment b letter).1)
    (λ next so. earlier (depth_of next) (line_after line b) line (rows.row ∷ rows.around) (line_after-least line b)
    (rows-writable bytes (comment_after comment b) (line_after line b) next end so))
    is

pub all_writable : (text : List ℕ) (row : Trees) → tree_of text ≡ Ok row → IsWritable 32 1 row
unfolding AreWritable depth_of
all_writable text row is = search (rules, tree_of-rows, rows-writable)
