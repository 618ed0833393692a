-- The first fault of a text lies at the first byte after which no text can go on, or at its end.
use Rattle.std.proofs.{Common.{rules, ◌≡◌, ℕ, zero, suc, ◌+◌, ◌-◌, ◌≤◌, Bool, true, false, List, [], ◌∷◌, ◌++◌, length, fold, Result, Ok, Err, IsOk, refl, ap, ◌∙◌}, lemmas.Bool.Decides.nat_tests}
use Rattle.stn_pddl.{specs.{declared.tree.scan.{TreeFault.{TreeFault, TheVariants.Syntax}, Place.{Place, TheVariants.{Before, Inside, After}}}, Tree.{Bytes.{kind_of, kind_in, comment_after, line_after}, Scan.{most_text, place_after, ends_at, scanned, tree_of}, FirstFault.{IsOnLine, IsFirstFault, at_byte, at_end}}}, proofs.tree.{Scanned.{scanned-next, scanned-fault}, Faults.{place_after-line, tree_of-refused, tree_of-scanned}}}
use Rattle.stn_text.specs.Faults.{◌>>=◌}

-- the brackets that close so many lists
closing : ℕ → List ℕ
closing zero = 41 ∷ []
closing (suc zero) = 41 ∷ []
closing (suc (suc depth)) = 41 ∷ closing (suc depth)

closed : (line depth : ℕ) → scanned false line (Inside depth) (closing depth) ≡ Ok After
unfolding closing scanned place_after kind_of comment_after line_after
closed line zero = refl
closed line (suc zero) = refl
closed line (suc (suc depth)) = search (rules, nat_tests, (closed line (suc depth)))

-- from each place outside a comment a text can go on
goes_on_outside : (line : ℕ) (place : Place) → (rest : List ℕ) × IsOk (scanned false line place rest)
unfolding scanned place_after kind_of comment_after line_after
goes_on_outside line Before = (40 ∷ 41 ∷ [], refl)
goes_on_outside line (Inside depth) = (closing depth, rw (closed line depth) refl)
goes_on_outside line After = ([], refl)

goes_on : (comment : Bool) (line : ℕ) (place : Place) → (rest : List ℕ) × IsOk (scanned comment line place rest)
unfolding scanned place_after comment_after line_after
goes_on true line place = let behind = goes_on_outside (line + 1) place in (10 ∷ behind.0, behind.1)
goes_on false line place = goes_on_outside line place

ends_at-line : {line : ℕ} (place : Place) {fault : TreeFault} → ends_at line place ≡ Err fault → fault ≡ Syntax line
ends_at-line place is = search rules

-- the fault of the bytes from a place on
record IsFaultFrom (comment : Bool) (line : ℕ) (place : Place) (front : List ℕ) (byte : ℕ) (fault : TreeFault) : Type 0 where
  before : (rest : List ℕ) × IsOk (scanned comment line place (front ++ rest))
  its_line : IsOnLine (fold line_after line front) fault
  always : (rest : List ℕ) → scanned comment line place (front ++ byte ∷ rest) ≡ Err fault

data IsFirstFrom (comment : Bool) (line : ℕ) (place : Place) (text : List ℕ) (fault : TreeFault) : Type 0 where
  byte_from : (front : List ℕ) (byte : ℕ) (rest : List ℕ) → text ≡ front ++ byte ∷ rest → IsFaultFrom comment line place front byte fault
      → IsFirstFrom comment line place text fault
  end_from : (rest : List ℕ) × IsOk (scanned comment line place (text ++ rest)) → fault ≡ Syntax (fold line_after line text)
      → IsFirstFrom comment line place text fault

-- what comes after a byte without a fault
module _ (comment : Bool) (line b : ℕ) (place next : Place) (is : place_after (kind_in comment b) line place ≡ Ok next) (bytes : List ℕ) (fault : TreeFault) where
  further : IsFirstFrom (comment_after comment b) (line_after line b) next bytes fault → IsFirstFrom comment line place (b ∷ bytes) fault
  further (byte_from front byte rest whole found) = byte_from (b ∷ front) byte rest (ap (λ l. b ∷ l) whole) (search (rules, scanned-next))
  further (end_from ends same) = search (rules, scanned-next)

first_from : (comment : Bool) (line : ℕ) (place : Place) (text : List ℕ) (fault : TreeFault) → scanned comment line place text ≡ Err fault
    → IsFirstFrom comment line place text fault
unfolding scanned
first_from comment line place [] fault is = end_from (goes_on comment line place) (ends_at-line place is)
first_from comment line place (b ∷ bytes) fault is =
    by (place_after (kind_in comment b) line place) refl is (λ next. first_from (comment_after comment b) (line_after line b) next bytes fault)
  where
    by : (step : Result Place TreeFault) → place_after (kind_in comment b) line place ≡ step
        → (step >>= λ next. scanned (comment_after comment b) (line_after line b) next bytes) ≡ Err fault
        → ((next : Place) → scanned (comment_after comment b) (line_after line b) next bytes ≡ Err fault → IsFirstFrom (comment_after comment b) (line_after line b) next bytes fault)
        → IsFirstFrom comment line place (b ∷ bytes) fault
    by (Ok next) this e behind = further comment line b place next this bytes fault (behind next e)
    by (Err given) this e behind =
        let same : given ≡ fault = cc in
        let here : place_after (kind_in comment b) line place ≡ Err fault = this ∙ ap Err same in
        byte_from [] b bytes refl (record {
          before = goes_on comment line place;
          its_line = place_after-line (kind_in comment b) line place fault here;
          always = λ more. scanned-fault comment line b place fault more here;
        })

pub first_fault_of : (text : List ℕ) (fault : TreeFault) → tree_of text ≡ Err fault → length text ≤ most_text → IsFirstFault text fault
first_fault_of text fault is short = by (first_from false 1 Before text fault (tree_of-refused text fault short is))
  where
    by : IsFirstFrom false 1 Before text fault → IsFirstFault text fault
    by (byte_from front byte rest whole found) = at_byte front byte rest whole (record {
      before = found.before;
      its_line = found.its_line;
      always = λ more fits. tree_of-scanned (front ++ byte ∷ more) fault fits (found.always more);
    })
    by (end_from ends same) = at_end ends same
