-- The faults of a text, and what a text without one is.
use Rattle.std.{proofs.{Common.{rules, ◌≡◌, ℕ, ◌<◌, ◌≤◌, Bool, true, false, cond, nat_lt, List, [], ◌∷◌, length, Ok, Err, refl, arith}, lemmas.{Bool.ltb-true, Result.{MatchResult-at_err, MatchResult-weaker}}}, specs.Result.MatchResult}
use Rattle.stn_pddl.{specs.{declared.tree.{bytes.Kind.{Kind}, scan.{TreeFault.{TreeFault, TheVariants.{TooLong}}, Place.{Place, TheVariants.{Before, Inside, After}}}}, Tree.{Bytes.{kind_in, comment_after, line_after}, Trees.{Trees, rows_from}, Scan.{most_text, place_after, scanned, tree_of, IsOneList}, FirstFault.IsOnLine}}, proofs.tree.Scanned.one-list}
use Rattle.stn_text.{specs.Faults.{◌>>=◌}, proofs.Readings.{both_give}}

-- a fault of a byte is on the line of the byte
on_its_line : (kind : Kind) (line : ℕ) (place : Place) → MatchResult (place_after kind line place) (λ _. Unit {0}) (IsOnLine line)
unfolding place_after
on_its_line kind line place = search (rules)

pub place_after-line : (kind : Kind) (line : ℕ) (place : Place) (fault : TreeFault) → place_after kind line place ≡ Err fault → IsOnLine line fault
place_after-line kind line place fault is = MatchResult-at_err (λ _. Unit {0}) _ fault is (on_its_line kind line place)

-- a fault on some line
abbrev OnSomeLine : TreeFault → Type 0
OnSomeLine fault = (line : ℕ) × IsOnLine line fault

scanned-line : (comment : Bool) (line : ℕ) (place : Place) (text : List ℕ) → MatchResult (scanned comment line place text) (λ _. Unit {0}) OnSomeLine
unfolding scanned
scanned-line comment line Before [] = (line, refl)
scanned-line comment line (Inside depth) [] = (line, refl)
scanned-line comment line After [] = tt
scanned-line comment line place (b ∷ bytes) =
    both_give (λ _. Unit {0}) (λ _. Unit {0}) _ _ (λ next. scanned (comment_after comment b) (line_after line b) next bytes)
    (MatchResult-weaker (place_after (kind_in comment b) line place) (on_its_line (kind_in comment b) line place) (λ next _. tt) (λ fault here. (line, here)))
    (λ next _. scanned-line (comment_after comment b) (line_after line b) next bytes)

module _ (text : List ℕ) where
  -- a text that is refused as too long is
  pub tree_of-long : tree_of text ≡ Err TooLong → most_text < length text
  unfolding tree_of
  tree_of-long is = by (nat_lt most_text (length text)) refl is
    where
      found : MatchResult (scanned false 1 Before text >>= λ end. Ok (rows_from false 1 text).row) (λ _. Unit {0}) OnSomeLine
      found = both_give (λ _. Unit {0}) (λ _. Unit {0}) OnSomeLine (scanned false 1 Before text) (λ end. Ok (rows_from false 1 text).row) (scanned-line false 1 Before text) (λ end _. tt)

      by : (long : Bool) → nat_lt most_text (length text) ≡ long
          → cond long (Err TooLong) (scanned false 1 Before text >>= λ end. Ok (rows_from false 1 text).row) ≡ Err TooLong → most_text < length text
      by true many e = ltb-true _ _ many
      by false few e = absurd (MatchResult-at_err (λ _. Unit {0}) _ _ e found).1

  -- a text that is short enough has the faults of its bytes
  short_test : length text ≤ most_text → nat_lt most_text (length text) ≡ false
  short_test short = grind arith

  pub tree_of-scanned : (fault : TreeFault) → length text ≤ most_text → scanned false 1 Before text ≡ Err fault → tree_of text ≡ Err fault
  unfolding tree_of
  tree_of-scanned fault short is = rw (short_test short, is) refl

  pub tree_of-refused : (fault : TreeFault) → length text ≤ most_text → tree_of text ≡ Err fault → scanned false 1 Before text ≡ Err fault
  unfolding tree_of
  tree_of-refused fault short is = search (rules)

  pub tree_of-Ok : (end : Place) → length text ≤ most_text → scanned false 1 Before text ≡ Ok end → tree_of text ≡ Ok (rows_from false 1 text).row
  unfolding tree_of
  tree_of-Ok end short is = rw (short_test short, is) refl

  -- the tree of a text is that of its rows
  pub tree_of-rows : (row : Trees) → tree_of text ≡ Ok row → (end : Place) × (scanned false 1 Before text ≡ Ok end) × ((rows_from false 1 text).row ≡ row)
  unfolding tree_of
  tree_of-rows row is = search (rules)

  -- and is one list
  pub tree_of-list : {row : Trees} → tree_of text ≡ Ok row → IsOneList row
  tree_of-list is = search (rules, tree_of-rows, one-list)
