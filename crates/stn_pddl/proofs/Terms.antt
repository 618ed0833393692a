-- Terms, as the code finds them.
use Rattle.std.{proofs.{Common.{rules, arith, ◌≡◌, ℕ, Bool, true, false, cond, List, [], ◌∷◌, ◌++◌, Option, Err, refl, position}, lemmas.List.{length-map, map-append}}, specs.List.{position_or_len, list_any}}
use Rattle.stn_pddl.specs.{Tree.{Trees.{Trees, Word}, Names.is_same_word}, declared.{tree.name.Name.Name, fault.DomainFault.{TheVariants.{Twice}}}, Fields.{parameters}, Words.{is_variable, item_of}, Atoms.{term, parameter_at}, Views.{bytes_of_name, words_of}}
use Rattle.stn_pddl.specs.declared.word.Item.TheVariants as item

position_or_len-map : (test : List ℕ → Bool) (names : List Name) → position_or_len test (words_of names) ≡ position_or_len (λ (name : Name). test (bytes_of_name name)) names
position_or_len-map test [] = refl
position_or_len-map test (name ∷ names) = rw (position_or_len-map test names) refl

-- a variable is found by its place, or not
pub term-variable : (names : List Name) (line : ℕ) (word : List ℕ) (found : Option ℕ) → is_variable word ≡ true → found ≡ position (λ (name : Name). is_same_word word (bytes_of_name name)) names
    → term (words_of names) line word ≡ parameter_at line found
unfolding term
term-variable names line word found variable is = search (rules, position_or_len-map, length-map)

-- a test of words, at names
pub list_any-names : (test : List ℕ → Bool) (names : List Name) → list_any test (words_of names) ≡ list_any (λ (name : Name). test (bytes_of_name name)) names
list_any-names test [] = refl
list_any-names test (name ∷ names) = rw (list_any-names test names) refl

module _ (line : ℕ) (word : List ℕ) (row next : Trees) (names : List Name) (here : row ≡ Word line word next) (is : item_of word ≡ item.Parameter) where
  -- what a parameter gives
  at_parameter : (before : List (List ℕ)) → parameters row before ≡ cond (list_any (is_same_word word) before) (Err (Twice line)) (parameters next (before ++ word ∷ []))
  unfolding parameters
  at_parameter before = cc

  -- a parameter that stood before
  pub parameter-twice : list_any (λ (name : Name). is_same_word word (bytes_of_name name)) names ≡ true → parameters row (words_of names) ≡ Err (Twice line)
  parameter-twice seen = search (rules, at_parameter, list_any-names)

  -- a parameter that is new
  pub parameter-new : (name : Name) {now : List Name} → bytes_of_name name ≡ word → list_any (λ (name : Name). is_same_word word (bytes_of_name name)) names ≡ false
      → now ≡ names ++ name ∷ [] → parameters next (words_of now) ≡ parameters row (words_of names)
  parameter-new name same new pushed = grind (arith, at_parameter, list_any-names, map-append)
