-- Words in small letters stand for what the words stand for.
use Rattle.std.{proofs.{lemmas.{List.length-map, Str.Ascii.lowercase-lowercase}, Common.{rules, ◌≡◌, ℕ, zero, suc, ◌+◌, ◌<◌, Bool, true, false, cond, List, [], ◌∷◌, map, take, drop, refl, ap, ◌∙◌, arith, position}}, specs.{Char.{to_ascii_lowercase, is_ascii_digit}, List.{list_any, prefix_len, position_or_len}, Str.all_ascii_digits}}
use Rattle.stn_time.specs.TimeOf.{is_numeral, fraction_of, parts_with, time_of}
use Rattle.stn_pddl.specs.{Tree.Names.{folded, is_same_word}, Words.{begins_with_byte, is_variable, is_key, is_name, is_other_logic, head_of, item_of, key_of, section_of}}
use Rattle.stn_plan_laws.proofs.trees.Case.{same_test}

folded-folded : (word : List ℕ) → folded (folded word) ≡ folded word
folded-folded [] = refl
folded-folded (b ∷ word) = cc (lowercase-lowercase b, folded-folded word)

pub same_first : (a b : List ℕ) → is_same_word (folded a) b ≡ is_same_word a b
unfolding is_same_word
same_first a b = cc (folded-folded a)

pub same_both : (a b : List ℕ) → is_same_word (folded a) (folded b) ≡ is_same_word a b
unfolding is_same_word
same_both a b = simp folded-folded

same_any : (word : List ℕ) (words : List (List ℕ)) → list_any (is_same_word (folded word)) words ≡ list_any (is_same_word word) words
same_any word words = search (rules, same_first)

pub same_listed : (word : List ℕ) (words : List (List ℕ)) → list_any (is_same_word (folded word)) (map folded words) ≡ list_any (is_same_word word) words
same_listed word [] = refl
same_listed word (other ∷ words) = rw (same_both word other, same_listed word words) refl

-- the place of a word
same_prefix : (word : List ℕ) (words : List (List ℕ)) → position_or_len (is_same_word (folded word)) (map folded words) ≡ position_or_len (is_same_word word) words
same_prefix word [] = refl
same_prefix word (other ∷ words) = grind (arith, same_both, (same_prefix word words))

pub same_position : (word : List ℕ) (words : List (List ℕ)) → position (is_same_word (folded word)) (map folded words) ≡ position (is_same_word word) words
same_position word words = grind (arith, same_prefix, length-map)

same_begins : {b : ℕ} (word : List ℕ) → b < 65 → begins_with_byte b (folded word) ≡ begins_with_byte b word
same_begins word small = search (rules, same_test)

pub same_variable : (word : List ℕ) → is_variable (folded word) ≡ is_variable word
unfolding is_variable
same_variable word = same_begins word (omega arith)

pub same_key : (word : List ℕ) → is_key (folded word) ≡ is_key word
unfolding is_key
same_key word = same_begins word (omega arith)

pub same_name : (word : List ℕ) → is_name (folded word) ≡ is_name word
unfolding is_name
same_name word = rw (same_variable word, same_key word) refl

same_logic : (word : List ℕ) → is_other_logic (folded word) ≡ is_other_logic word
unfolding is_other_logic
same_logic word = search (rules, same_any)

pub same_head : (word : List ℕ) → head_of (folded word) ≡ head_of word
unfolding head_of
same_head word = grind (arith, same_first, same_logic, same_name)

pub same_item : (word : List ℕ) → item_of (folded word) ≡ item_of word
unfolding item_of
same_item word = simp (same_variable, length-map, same_first)

pub same_key_of : (word : List ℕ) → key_of (folded word) ≡ key_of word
unfolding key_of
same_key_of word = simp (same_first, same_key)

pub same_section : (word : List ℕ) → section_of (folded word) ≡ section_of word
unfolding section_of
same_section word = search (rules, same_first, same_key)

-- a digit is no letter
same_digit : (b : ℕ) → is_ascii_digit (to_ascii_lowercase b) ≡ is_ascii_digit b
same_digit b = grind arith

small_digit : {b : ℕ} → is_ascii_digit b ≡ true → to_ascii_lowercase b ≡ b
small_digit is = grind arith

same_digits : (bytes : List ℕ) → all_ascii_digits (folded bytes) ≡ all_ascii_digits bytes
same_digits [] = refl
same_digits (b ∷ bytes) = rw (same_digit b, same_digits bytes) refl

small_digits : (bytes : List ℕ) → all_ascii_digits bytes ≡ true → folded bytes ≡ bytes
small_digits [] is = refl
small_digits (b ∷ bytes) is = search (rules, (small_digits bytes))

same_len : (bytes : List ℕ) → prefix_len is_ascii_digit (folded bytes) ≡ prefix_len is_ascii_digit bytes
same_len [] = refl
same_len (b ∷ bytes) = rw (same_digit b, same_len bytes) refl

-- the digits at the front, and what comes after so many bytes
same_front : (bytes : List ℕ) → take (prefix_len is_ascii_digit bytes) (folded bytes) ≡ take (prefix_len is_ascii_digit bytes) bytes
same_front [] = refl
same_front (b ∷ bytes) = by (is_ascii_digit b) refl (same_front bytes)
  where
    by : (digit : Bool) → is_ascii_digit b ≡ digit
        → take (prefix_len is_ascii_digit bytes) (folded bytes) ≡ take (prefix_len is_ascii_digit bytes) bytes
        → take (cond digit (1 + prefix_len is_ascii_digit bytes) 0) (folded (b ∷ bytes)) ≡ take (cond digit (1 + prefix_len is_ascii_digit bytes) 0) (b ∷ bytes)
    by true this more =
        let next : 1 + prefix_len is_ascii_digit bytes ≡ suc (prefix_len is_ascii_digit bytes) = omega arith in
        rw next (ap (λ c. c ∷ take (prefix_len is_ascii_digit bytes) (folded bytes)) (small_digit this) ∙ ap (λ l. b ∷ l) more)
    by false this more = refl

folded-drop : (n : ℕ) (bytes : List ℕ) → drop n (folded bytes) ≡ folded (drop n bytes)
folded-drop zero bytes = refl
folded-drop (suc n) [] = refl
folded-drop (suc n) (b ∷ bytes) = folded-drop n bytes

same_numeral : (bytes : List ℕ) → is_numeral (folded bytes) ≡ is_numeral bytes
same_numeral bytes = search (rules, same_digits)

numeral-digits : {bytes : List ℕ} → is_numeral bytes ≡ true → folded bytes ≡ bytes
numeral-digits is = search (rules, small_digits)

same_fraction : (bytes : List ℕ) → fraction_of (folded bytes) ≡ fraction_of bytes
same_fraction bytes = search (rules, same_numeral, numeral-digits)

same_parts : (negative : Bool) (bytes : List ℕ) → parts_with negative (folded bytes) ≡ parts_with negative bytes
same_parts negative bytes = grind (arith, same_len, same_front, folded-drop, same_fraction)

same_rest : (minus : Bool) (word : List ℕ) → cond minus (drop 1 (folded word)) (folded word) ≡ folded (cond minus (drop 1 word) word)
same_rest minus word = search rules

-- a time has no letters
pub same_time : (word : List ℕ) → time_of (folded word) ≡ time_of word
unfolding time_of
same_time word = grind (arith, same_rest, same_parts)
