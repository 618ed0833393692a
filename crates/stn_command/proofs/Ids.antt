-- The id that a word names.
use Rattle.std.{proofs.{Common.{rules, ◌≡◌, ◌≢◌, ℕ, ◌+◌, Bool, true, false, ◌==◌, ◌&&◌, cond, List, [], ◌∷◌, ◌++◌, length, Some, None, refl, arith, append_assoc, bytes_eq}, lemmas.{Slice.Eq.bytes_eq-Decides, Bool.{and_parts, and_from}, Fmt.{digits_decimal, digits_value-decimal}, List.{take_at, drop_at, length_push}}}, specs.{List.{before_first, after_first, position_or_len}, Char.is_ascii_digit, Str.all_ascii_digits}}
use Rattle.stn_text.proofs.Digits.{own}
use Rattle.stn_records.specs.Id.{SiteCounter, IsId, id_text}
use Rattle.stn_command.specs.Words.{around_dot, is_id, id_of}

-- digits are no dot
digit_no_dot : (byte : ℕ) → is_ascii_digit byte ≡ true → (byte == 46) ≡ false
digit_no_dot byte e = grind (arith)

-- the first dot after digits
dot_behind : (xs ys : List ℕ) → all_ascii_digits xs ≡ true → position_or_len (λ byte. byte == 46) (xs ++ (46 ∷ ys)) ≡ length xs
dot_behind [] ys e = refl
dot_behind (x ∷ xs) ys e =
    let both = and_parts _ _ e in
    rw (digit_no_dot x both.0) (omega (arith, dot_behind xs ys both.1))

before : (xs ys : List ℕ) → all_ascii_digits xs ≡ true → before_first (λ byte. byte == 46) (xs ++ (46 ∷ ys)) ≡ xs
before xs ys e = cc (dot_behind xs ys e, take_at xs (46 ∷ ys) (length xs) refl)

behind : (xs ys : List ℕ) → all_ascii_digits xs ≡ true → after_first (λ byte. byte == 46) (xs ++ (46 ∷ ys)) ≡ ys
behind xs ys e = cc (dot_behind xs ys e, append_assoc xs (46 ∷ []) ys, drop_at (xs ++ (46 ∷ [])) ys (length xs + 1) (length_push xs 46))

-- the numbers around the dot of a printed id are those of the id
around_text : (id : SiteCounter) → IsId id → around_dot (id_text id) ≡ id
around_text id is = search (rules, append_assoc, before, digits_decimal, own, digits_value-decimal, behind)

is_id-from : (id : SiteCounter) → IsId id → is_id id ≡ true
is_id-from id is = search rules

is_id-to : (id : SiteCounter) → is_id id ≡ true → IsId id
is_id-to id e = search rules

-- a word that names an id
pub id_of-some : (word : List ℕ) (id : SiteCounter) → IsId id → word ≡ id_text id → id_of word ≡ Some id
unfolding id_of
id_of-some word id is named = search (rules, around_text, and_from, is_id-from)

none_told : (word : List ℕ) (t : Bool) → (is_id (around_dot word) && bytes_eq word (id_text (around_dot word))) ≡ t
    → ((id : SiteCounter) → IsId id → word ≢ id_text id) → cond t (Some (around_dot word)) None ≡ None
none_told word false e other = refl
none_told word true e other =
    let both = and_parts _ _ e in
    absurd (other (around_dot word) (is_id-to (around_dot word) both.0) ((bytes_eq-Decides word (id_text (around_dot word))).0 both.1))

-- a word that names none
pub id_of-none : (word : List ℕ) → ((id : SiteCounter) → IsId id → word ≢ id_text id) → id_of word ≡ None
unfolding id_of
id_of-none word other = none_told word _ refl other
