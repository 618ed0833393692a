-- Numbers of atoms, as a numbering grows.
use Rattle.std.{proofs.{Common.{rules, ◌≡◌, ℕ, ◌+◌, ◌<◌, List, [], ◌∷◌, ◌++◌, map, length, take, get_or, IsPermutation, sym, ap, subst, ◌∙◌, ⊎_elim}, lemmas.List.{map-append, take_more, get_or-map, length-map, Elements.{All-from_recursion, Contains-push, Contains-push_cases, Contains-append_left}, Sorted.{IsPermutation-sym, Contains-permutation}}}, specs.List.{AllZip, AllByRecursion}}
use Rattle.indexmap.proofs.SetLemmas.{AllZip-push}
use Rattle.stn_pddl.specs.{Schemas.TermSchema, Tree.Names.folded}
use Rattle.stn_lift.specs.{Footprints.{GroundAtom, Footprint, term_name}, Numbering.{Numbering, IsNameAt, IsNumberOf, KeepsNumbers, AreNumbersOf, IsNumbered}}

pub zip_weaker : {A B : Type 0} (R S : A → B → Type 0) → ((a : A) (b : B) → R a b → S a b) → (xs : List A) (ys : List B) → AllZip R xs ys → AllZip S xs ys
zip_weaker R S each [] [] all = all
zip_weaker R S each [] (b ∷ ys) all = absurd all
zip_weaker R S each (a ∷ xs) [] all = absurd all
zip_weaker R S each (a ∷ xs) (b ∷ ys) all = (each a b all.0, zip_weaker R S each xs ys all.1)

pub kept_along : {first second third : Numbering} → KeepsNumbers first second → KeepsNumbers second third → KeepsNumbers first third
kept_along one two = search rules

module _ (old new : Numbering) (kept : KeepsNumbers old new) where
  pub names_kept : (spelling : List ℕ) (atom : GroundAtom) → AllZip (IsNameAt old.names) spelling atom → AllZip (IsNameAt new.names) spelling atom
  names_kept spelling atom = search (rules, zip_weaker)

  pub number_kept : {number : ℕ} {atom : GroundAtom} → IsNumberOf old number atom → IsNumberOf new number atom
  number_kept is = search (rules, names_kept)

  pub numbers_kept : {numbers : List ℕ} {atoms : List GroundAtom} → AreNumbersOf old numbers atoms → AreNumbersOf new numbers atoms
  numbers_kept are = record {
    sound = λ number there. let atom = are.sound number there in (atom.0, number_kept atom.1, atom.2);
    full = λ atom there. let number = are.full atom there in (number.0, number_kept number.1, number.2);
  }

  pub numbered_kept : {numbered : Footprint ℕ} {atoms : Footprint GroundAtom} → IsNumbered old numbered atoms → IsNumbered new numbered atoms
  numbered_kept is = search (rules, numbers_kept)

module _ (args : List (List ℕ)) where
  -- one term more
  pub spelled_more : (names : List (List ℕ)) (spelling : List ℕ) (first : List ℕ) (terms : List TermSchema) {place : ℕ} (number : ℕ) {term : TermSchema}
      → place < length terms → term ≡ get_or terms place term
      → AllZip (IsNameAt names) spelling (first ∷ map (λ t. folded (term_name args t)) (take place terms)) → IsNameAt names number (folded (term_name args term))
      → AllZip (IsNameAt names) (spelling ++ number ∷ []) (first ∷ map (λ t. folded (term_name args t)) (take (place + 1) terms))
  spelled_more names spelling first terms {place} number {term} within here all one =
      let f : TermSchema → List ℕ = λ t. folded (term_name args t) in
      let more : take (place + 1) terms ≡ take place terms ++ term ∷ [] = take_more terms place term within ∙ ap (λ t. take place terms ++ t ∷ []) (sym here) in
      let mapped : map f (take (place + 1) terms) ≡ map f (take place terms) ++ f term ∷ [] = ap (map f) more ∙ map-append f (take place terms) (term ∷ []) in
      subst (λ ts. AllZip (IsNameAt names) (spelling ++ number ∷ []) (first ∷ ts)) (sym mapped)
      (AllZip-push (IsNameAt names) spelling (first ∷ map f (take place terms)) number (f term) all one)

module _ (numbering : Numbering) where
  pub numbers_none : AreNumbersOf numbering [] []
  numbers_none = search rules

  -- one more
  pub numbers_push : {numbers : List ℕ} {atoms : List GroundAtom} {number : ℕ} {atom : GroundAtom} → AreNumbersOf numbering numbers atoms → IsNumberOf numbering number atom
      → AreNumbersOf numbering (numbers ++ number ∷ []) (atoms ++ atom ∷ [])
  numbers_push {numbers} {atoms} {number} {atom} are one = record {
    sound = λ other there. ⊎_elim
        (λ old. let found = are.sound other old in (found.0, found.1, Contains-append_left atoms (atom ∷ []) found.0 found.2))
        (λ same. (atom, subst (λ n. IsNumberOf numbering n atom) same one, Contains-push atoms atom))
        (Contains-push_cases numbers number other there);
    full = λ other there. ⊎_elim
        (λ old. let found = are.full other old in (found.0, found.1, Contains-append_left numbers (number ∷ []) found.0 found.2))
        (λ same. (number, subst (IsNumberOf numbering number) same one, Contains-push numbers number))
        (Contains-push_cases atoms atom other there);
  }

  -- in another order
  pub numbers_moved : {numbers others : List ℕ} {atoms : List GroundAtom} → IsPermutation numbers others → AreNumbersOf numbering numbers atoms → AreNumbersOf numbering others atoms
  numbers_moved {numbers} {others} moved are = record {
    sound = λ number there. are.sound number (Contains-permutation others numbers number (IsPermutation-sym numbers others moved) there);
    full = λ atom there. let number = are.full atom there in (number.0, number.1, Contains-permutation numbers others number.0 moved number.2);
  }

-- what holds of all that a list says holds of what each element says
pub all_said : {X Y : Type 0} (P : Y → Type 0) (f : X → Y) (xs : List X) {place : ℕ} (d : X) → AllByRecursion P (map f xs) → place < length xs → P (f (get_or xs place d))
all_said P f xs {place} d all within =
    let mapped : place < length (map f xs) = rw length-map within in
    subst P (get_or-map f xs place d (f d) within) (All-from_recursion P (map f xs) all place (f d) mapped)
