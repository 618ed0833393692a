-- Words that name the same, without regard to ASCII case.
use Rattle.std.{specs.{Prelude.{◌≡◌, ℕ, Bool, true, List, map}, List.flat_map, Char.to_ascii_lowercase, Str.bytes_eq, Cmp.IsEquivalence}, proofs.{lemmas.{Cmp.nat_list_eq_equiv, Slice.Eq.bytes_eq-Decides}, Common.ap}}
use Rattle.std.specs.Hash as fed

-- with small letters for the capital ones of ASCII
abbrev pub folded : List ℕ → List ℕ
folded word = map to_ascii_lowercase word

unfoldable pub is_same_word : List ℕ → List ℕ → Bool
is_same_word a b = bytes_eq (folded a) (folded b)

-- what a word feeds a hasher: each byte of the folded word
unfoldable pub hash_writes : List ℕ → fed.HashWrites
hash_writes word = flat_map fed.u8 (folded word)

pub hashed_alike : (a b : List ℕ) → is_same_word a b ≡ true → hash_writes a ≡ hash_writes b
unfolding is_same_word hash_writes
hashed_alike a b same = ap (flat_map fed.u8) ((bytes_eq-Decides (folded a) (folded b)).0 same)

-- it is an equivalence, of whatever has a word
pub same_words : {K : Type 0} (word_of : K → List ℕ) → IsEquivalence (λ a b. is_same_word (word_of a) (word_of b))
unfolding is_same_word
same_words word_of = record {
  refl = λ a. nat_list_eq_equiv.refl (folded (word_of a));
  symm = λ a b. nat_list_eq_equiv.symm (folded (word_of a)) (folded (word_of b));
  congr = λ a b c. nat_list_eq_equiv.congr (folded (word_of a)) (folded (word_of b)) (folded (word_of c));
}
