-- A text in small letters has the tree of the text, with its words in small letters.
use Rattle.std.{proofs.{Common.{rules, ◌≡◌, ℕ, ◌<◌, ◌≤◌, Bool, eqb, List, [], ◌∷◌, map, refl, arith}, lemmas.List.length-map}, specs.Char.to_ascii_lowercase}
use Rattle.stn_pddl.specs.{declared.tree.{bytes.Kind.TheVariants.Letter, scan.Place.Place}, Tree.{Bytes.{kind_of, kind_in, comment_after, line_after}, Names.folded, Scan.{scanned, tree_of}, Trees.{Rows, begins_word, rows_from}}}
use Rattle.stn_plan_laws.specs.Tree.Case.{in_small, tree_in_small}

letter : (b : ℕ) → 65 ≤ b → b ≤ 122 → kind_of b ≡ Letter
unfolding kind_of
letter b low high = search rules

same_kind : (b : ℕ) → kind_of (to_ascii_lowercase b) ≡ kind_of b
same_kind b = search (rules, letter)

pub same_test : (b : ℕ) {n : ℕ} → n < 65 → eqb (to_ascii_lowercase b) n ≡ eqb b n
same_test b small = search rules

same_kind_in : (comment : Bool) (b : ℕ) → kind_in comment (to_ascii_lowercase b) ≡ kind_in comment b
same_kind_in comment b = search (rules, same_kind)

same_comment : (comment : Bool) (b : ℕ) → comment_after comment (to_ascii_lowercase b) ≡ comment_after comment b
unfolding comment_after
same_comment comment b = search rules

same_line : (line b : ℕ) → line_after line (to_ascii_lowercase b) ≡ line_after line b
unfolding line_after
same_line line b = rw (same_test b {n = 10} (omega arith)) refl

same_begins : (bytes : List ℕ) → begins_word (folded bytes) ≡ begins_word bytes
unfolding begins_word
same_begins bytes = search (rules, same_kind)

scanned-folded : (text : List ℕ) (comment : Bool) (line : ℕ) (place : Place) → scanned comment line place (folded text) ≡ scanned comment line place text
unfolding scanned
scanned-folded [] comment line place = refl
scanned-folded (b ∷ bytes) comment line place =
    search (rules, same_kind_in, same_comment, same_line, (scanned-folded bytes (comment_after comment b) (line_after line b)))

-- the rows of both
small_rows : Rows → Rows
small_rows rows = record { row = in_small rows.row; around = map in_small rows.around }

rows-folded : (text : List ℕ) (comment : Bool) (line : ℕ) → rows_from comment line (folded text) ≡ small_rows (rows_from comment line text)
unfolding rows_from small_rows in_small
rows-folded [] comment line = refl
rows-folded (b ∷ bytes) comment line =
    search (rules, same_kind_in, same_comment, same_line, same_begins, (rows-folded bytes (comment_after comment b) (line_after line b)))

pub small_tree : (text : List ℕ) → tree_of (folded text) ≡ tree_in_small (tree_of text)
unfolding tree_of small_rows
small_tree text = search (rules, scanned-folded, rows-folded, length-map)
