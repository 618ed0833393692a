-- The first line of a text and the first word of a line.
use Rattle.std.{proofs.{lemmas.{Grind.common_steps, Bool.eqb-true, List.{drop_more, Quantifiers.position-Some, Sums.fails_before_first, Splits.{length-slice_split, slice_split_none, slice_split_first}}}, Common.{rules, ◌≡◌, ℕ, ◌+◌, ◌<◌, Bool, true, false, List, [], ◌∷◌, ◌++◌, length, take, drop, take-append-drop, Some, None, arith, position}}, specs.List.slice_split}
use Rattle.stn_text.specs.Lines.{is_line_end, is_gap, without_empty_last, lines_of, words_of, begins_with_gap}

-- where no byte passes, the text is one part
pub split_whole : (p : ℕ → Bool) {xs : List ℕ} → position p xs ≡ None → slice_split p xs ≡ xs ∷ []
split_whole p e = search (rules, slice_split_none, fails_before_first)

-- the first part ends at the place where a byte passes
split_found : (p : ℕ → Bool) (xs : List ℕ) {end : ℕ} → position p xs ≡ Some end → slice_split p xs ≡ take end xs ∷ slice_split p (drop (end + 1) xs)
split_found p xs e = search (rules, slice_split_first)

without_empty_last-cons : {part : List ℕ} (parts : List (List ℕ)) → 0 < length parts → without_empty_last (part ∷ parts) ≡ part ∷ without_empty_last parts
without_empty_last-cons parts some = search rules

-- a text whose first LF stands at `end`
pub lines_of-found : (text : List ℕ) (end : ℕ) → position is_line_end text ≡ Some end → lines_of text ≡ take end text ∷ lines_of (drop (end + 1) text)
unfolding lines_of
lines_of-found text end e = search (rules, split_found, without_empty_last-cons, length-slice_split)

-- a text without LF is its one line
pub lines_of-whole : (text : List ℕ) → 0 < length text → position is_line_end text ≡ None → lines_of text ≡ text ∷ lines_of []
unfolding lines_of
lines_of-whole text some e = search (rules, split_whole)

-- a byte at the front that parts words
pub words_of-gap : (byte : ℕ) (bytes : List ℕ) → is_gap byte ≡ true → words_of (byte ∷ bytes) ≡ words_of bytes
unfolding words_of
words_of-gap byte bytes e = cc

-- a line without bytes
pub words_of-none : (line : List ℕ) → length line ≡ 0 → words_of line ≡ []
unfolding words_of
words_of-none line none = grind (arith, common_steps)

-- a line whose first word ends at `end`
pub words_of-found : (line : List ℕ) (end : ℕ) → begins_with_gap line ≡ false → position is_gap line ≡ Some end → words_of line ≡ take end line ∷ words_of (drop (end + 1) line)
unfolding words_of
words_of-found line end b e = search (rules, split_found)

-- a line that is one word
pub words_of-whole : (line : List ℕ) → 0 < length line → position is_gap line ≡ None → words_of line ≡ line ∷ words_of []
unfolding words_of
words_of-whole line some e = search (rules, split_whole)

-- byte for byte, a text whose first LF stands at `end`
pub cut_found : {text : List ℕ} {end : ℕ} → position is_line_end text ≡ Some end → text ≡ take end text ++ 10 ∷ drop (end + 1) text
cut_found {text} {end} e =
    let at = position-Some is_line_end text end 0 e in
    search (rules, take-append-drop, drop_more, eqb-true)
