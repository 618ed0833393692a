-- The scan of a text, byte by byte, and that a text without a fault is one list.
use Rattle.std.proofs.{Common.{rules, ◌≡◌, ℕ, ◌+◌, ◌-◌, ◌<◌, ◌≤◌, Bool, true, false, cond, nat_lt, List, [], ◌∷◌, ◌++◌, length, get_or, drop, Result, Ok, Err, refl, ◌∙◌, ap, arith, drop-cons}, lemmas.Bool.{ltb-true, ltb-false}}
use Rattle.stn_pddl.specs.{declared.tree.{bytes.Kind.{Kind, TheVariants.{Blank, Open, Close, Letter, Stray}}, scan.{TreeFault.{TreeFault, TheVariants.{TooDeep}}, Place.{Place, TheVariants.{Before, Inside, After}}}}, Tree.{Bytes.{kind_in, comment_after, line_after}, Scan.{place_after, ends_at, scanned, IsOneList}, Trees.{Trees, Group, End, Rows, outer, before_byte, begins_word, rows_from}}}
use Rattle.stn_text.specs.Faults.{◌>>=◌}

-- one byte more
pub scanned-at : (comment : Bool) (line : ℕ) (place next : Place) (i : ℕ) (text : List ℕ) → i < length text → place_after (kind_in comment (get_or text i 0)) line place ≡ Ok next
    → scanned comment line place (drop i text) ≡ scanned (comment_after comment (get_or text i 0)) (line_after line (get_or text i 0)) next (drop (i + 1) text)
unfolding scanned
scanned-at comment line place next i text within is = search (rules, drop-cons)

pub scanned-next : (comment : Bool) (line b : ℕ) (place next : Place) (bytes : List ℕ) → place_after (kind_in comment b) line place ≡ Ok next
    → scanned comment line place (b ∷ bytes) ≡ scanned (comment_after comment b) (line_after line b) next bytes
unfolding scanned
scanned-next comment line b place next bytes is = rw is refl

-- the first byte is a fault
pub scanned-fault : (comment : Bool) (line b : ℕ) (place : Place) (fault : TreeFault) (bytes : List ℕ) → place_after (kind_in comment b) line place ≡ Err fault
    → scanned comment line place (b ∷ bytes) ≡ Err fault
unfolding scanned
scanned-fault comment line b place fault bytes is = rw is refl

-- A place inside has an open bracket.
abbrev pub IsPlace : Place → Type 0
IsPlace Before = Unit {0}
IsPlace (Inside depth) = 0 < depth
IsPlace After = Unit {0}

-- as many rows around as brackets are open, and nothing after the outermost list
abbrev pub Closes : ℕ → List Trees → Type 0
Closes depth around = (inner : List Trees) × (around ≡ inner ++ End ∷ []) × (length inner + 1 ≡ depth)

-- what is still to come at a place of a text without a fault
abbrev pub Completes : Place → Rows → Type 0
Completes Before rows = (line : ℕ) × (children : Trees) × (rows.row ≡ Group line children End) × (rows.around ≡ [])
Completes (Inside depth) rows = Closes depth rows.around
Completes After rows = (rows.row ≡ End) × (rows.around ≡ [])

abbrev placed : Place → Result Place TreeFault
placed place = Ok place

refused : {B : Type 0} {fault : TreeFault} {end : Place} → Err fault ≡ Ok end → B
refused is = cc

-- whether a bracket may open or close
chosen : {B : Type 0} {t : Bool} {a b : Result Place TreeFault} → (t ≡ true → a ≡ cond t a b → B) → (t ≡ false → b ≡ cond t a b → B) → B
chosen if_true if_false = search rules

module _ (f : Place → Result Place TreeFault) (end : Place) (rows : Rows) (later : (next : Place) → IsPlace next → f next ≡ Ok end → Completes next rows) where
  completes-open : (line b : ℕ) (more : Bool) (place : Place) → IsPlace place → (place_after Open line place >>= f) ≡ Ok end → Completes place (before_byte Open line b more rows)
  unfolding place_after
  completes-open line b more Before at is =
      let inside : Closes 1 rows.around = later (Inside 1) (omega arith) is in
      outermost inside.0 inside.1 inside.2
    where
      outermost : (inner : List Trees) → rows.around ≡ inner ++ End ∷ [] → length inner + 1 ≡ 1 → Completes Before (before_byte Open line b more rows)
      outermost [] around long = (line, rows.row, rw around refl, rw around refl)
      outermost (row ∷ inner) around long = absurd (omega arith)
  completes-open line b more (Inside depth) at is = chosen opens (λ e same. refused (ap (λ r. r >>= f) same ∙ is))
    where
      inner_ones : (inner : List Trees) → rows.around ≡ inner ++ End ∷ [] → length inner + 1 ≡ depth + 1 → Closes depth (outer rows.around)
      inner_ones [] around long = absurd (omega arith)
      inner_ones (row ∷ inner) around long = (inner, rw around refl, omega arith)

      opens : nat_lt depth 32 ≡ true → placed (Inside (depth + 1)) ≡ cond (nat_lt depth 32) (placed (Inside (depth + 1))) (Err (TooDeep line)) → Completes (Inside depth) (before_byte Open line b more rows)
      opens e same =
          let inside : Closes (depth + 1) rows.around = later (Inside (depth + 1)) (omega arith) (ap (λ r. r >>= f) same ∙ is) in
          inner_ones inside.0 inside.1 inside.2
  completes-open line b more After at is = refused is

  completes-close : (line b : ℕ) (more : Bool) (place : Place) → IsPlace place → (place_after Close line place >>= f) ≡ Ok end → Completes place (before_byte Close line b more rows)
  unfolding place_after
  completes-close line b more Before at is = refused is
  completes-close line b more (Inside depth) at is = chosen closes ends
    where
      closes : nat_lt 1 depth ≡ true → placed (Inside (depth - 1)) ≡ cond (nat_lt 1 depth) (placed (Inside (depth - 1))) (placed After) → Completes (Inside depth) (before_byte Close line b more rows)
      closes e same =
          let deep : 1 < depth = ltb-true _ _ e in
          let around : Closes (depth - 1) rows.around = later (Inside (depth - 1)) (omega arith) (ap (λ r. r >>= f) same ∙ is) in
          (rows.row ∷ around.0, ap (λ rs. rows.row ∷ rs) around.1, omega arith)

      ends : nat_lt 1 depth ≡ false → placed After ≡ cond (nat_lt 1 depth) (placed (Inside (depth - 1))) (placed After) → Completes (Inside depth) (before_byte Close line b more rows)
      ends e same =
          let flat : depth ≤ 1 = ltb-false _ _ e in
          let after : Completes After rows = later After tt (ap (λ r. r >>= f) same ∙ is) in
          ([], ap (λ rs. rows.row ∷ rs) after.1 ∙ ap (λ r. r ∷ []) after.0, omega arith)
  completes-close line b more After at is = refused is

  completes-byte : (k : Kind) (line b : ℕ) (more : Bool) (place : Place) → IsPlace place → (place_after k line place >>= f) ≡ Ok end → Completes place (before_byte k line b more rows)
  unfolding place_after
  completes-byte Blank line b more place at is = later place at is
  completes-byte Open line b more place at is = completes-open line b more place at is
  completes-byte Close line b more place at is = completes-close line b more place at is
  completes-byte Letter line b more Before at is = refused is
  completes-byte Letter line b true (Inside depth) at is = later (Inside depth) at is
  completes-byte Letter line b false (Inside depth) at is = later (Inside depth) at is
  completes-byte Letter line b more After at is = refused is
  completes-byte Stray line b more place at is = refused is

pub rows-byte : (comment : Bool) (line b : ℕ) (bytes : List ℕ) → rows_from comment line (b ∷ bytes) ≡ before_byte (kind_in comment b) line b (begins_word bytes) (rows_from (comment_after comment b) (line_after line b) bytes)
unfolding rows_from
rows-byte comment line b bytes = refl

completes-end : (comment : Bool) (line : ℕ) (place end : Place) → ends_at line place ≡ Ok end → Completes place (rows_from comment line [])
unfolding rows_from
completes-end comment line place end is = search (rules)

-- A text without a fault completes its place.
pub completes : (bytes : List ℕ) (comment : Bool) (line : ℕ) (place end : Place) → IsPlace place → scanned comment line place bytes ≡ Ok end → Completes place (rows_from comment line bytes)
unfolding scanned
completes [] comment line place end at is = completes-end comment line place end is
completes (b ∷ bytes) comment line place end at is =
    search (rules, rows-byte, completes-byte, (completes bytes (comment_after comment b) (line_after line b)))

pub one-list : (text : List ℕ) {end : Place} → scanned false 1 Before text ≡ Ok end → IsOneList (rows_from false 1 text).row
one-list text is = search (rules, completes)
