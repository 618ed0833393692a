-- The first part of a heading: the steps of a bare plan, or the blocks of a domain and of a plan.
use Rattle.std.{proofs.{lemmas.Grind.common_steps, Common.{rules, ◌≡◌, ℕ, ◌+◌, ◌<◌, ◌==◌, zero, suc, true, false, List, [], ◌∷◌, ◌++◌, length, length-append, take, Option, Some, None, Ok, Err, refl, ap, arith, codes, append_assoc}}, specs.Option.option_map}
use Rattle.stn_text.specs.Lines.{IsCutBehindLine, lines_of, words_of}
use Rattle.stn_refusal.specs.declared.failure.Failure.{Failure}
use Rattle.stn_command.specs.Words.{and_then}
use Rattle.stn_exec.specs.{Blocks.{Block, is_alone, with_text, line_text, block_from}, Script.{Found, next_line, or_line, bare_part, files_part, first_part, based}}

pub some_left : (n : ℕ) → (n == 0) ≡ false → 0 < n
some_left zero is = cc
some_left (suc n) is = omega arith

-- ---- blocks
with_texts : (front more : List ℕ) (block : Option Block) → option_map (with_text front) (option_map (with_text more) block) ≡ option_map (with_text (front ++ more)) block
with_texts front more block = search (rules, append_assoc)

-- a block that has not ended where the text has
pub block_from-none : (number : ℕ) → block_from number [] ≡ None
unfolding block_from
block_from-none number = refl

block_from-end : (number : ℕ) (line : List ℕ) (lines : List (List ℕ)) → is_alone (codes "end") (words_of line) ≡ true
    → block_from number (line ∷ lines) ≡ Some (record { text = []; number = number + 1; behind = lines })
unfolding block_from
block_from-end number line lines e = cc

block_from-line : (number : ℕ) (line : List ℕ) (lines : List (List ℕ)) → is_alone (codes "end") (words_of line) ≡ false
    → block_from number (line ∷ lines) ≡ option_map (with_text (line_text line)) (block_from (number + 1) lines)
unfolding block_from
block_from-line number line lines e = cc

-- where a search for the end of a block stands: the text in front, which ends with a line's LF where anything is left, and the block
-- that begins with what is left
pub record IsSought (number : ℕ) (text : List ℕ) (at : ℕ) (left : List ℕ) : Type 0 where
  pub front : List ℕ
  pub whole : 0 < length left → text ≡ front ++ left
  pub same : block_from number (lines_of text) ≡ option_map (with_text front) (block_from at (lines_of left))

pub sought_on : (number : ℕ) (text : List ℕ) (at : ℕ) (left line behind : List ℕ) → IsSought number text at left → 0 < length left
    → lines_of left ≡ line ∷ lines_of behind → IsCutBehindLine left line behind → is_alone (codes "end") (words_of line) ≡ false
    → IsSought number text (at + 1) behind
sought_on number text at left line behind sought some lines cut other = grind (arith, common_steps, block_from-line, with_texts)

-- the text of a block that ends here
taken : (text front left : List ℕ) (count : ℕ) → text ≡ front ++ left → count + length left ≡ length text → take count text ≡ front
taken text front left count whole counted = grind (arith, common_steps, length-append)

pub sought_end : (number : ℕ) (text : List ℕ) (at : ℕ) (left line behind : List ℕ) (count : ℕ) → IsSought number text at left → 0 < length left
    → lines_of left ≡ line ∷ lines_of behind → is_alone (codes "end") (words_of line) ≡ true → count + length left ≡ length text
    → Some (record { text = take count text; number = at + 1; behind = lines_of behind }) ≡ block_from number (lines_of text)
sought_end number text at left line behind count sought some lines ends counted = search (rules, taken, block_from-end)

pub sought_none : (number : ℕ) (text : List ℕ) (at : ℕ) (left : List ℕ) → IsSought number text at left → lines_of left ≡ [] → None ≡ block_from number (lines_of text)
sought_none number text at left sought none = cc (block_from-none at)

-- ---- the first part, by the line that was found
pub based-none : (last : ℕ) (lines : List (List ℕ)) (cause : Failure) → or_line last (next_line 1 lines) ≡ Err cause → based last lines ≡ Err cause
unfolding based
based-none last lines cause e = ap (λ r. and_then r (first_part last)) e

based-by : (last : ℕ) (lines : List (List ℕ)) (found : Found) → Ok found ≡ or_line last (next_line 1 lines) → first_part last found ≡ based last lines
unfolding based
based-by last lines found e = ap (λ r. and_then r (first_part last)) e

-- a line that is `domain`, and one that is not
pub based-files : (last : ℕ) (lines : List (List ℕ)) (found : Found) → Ok found ≡ or_line last (next_line 1 lines) → is_alone (codes "domain") found.words ≡ true → files_part last found ≡ based last lines
based-files last lines found e is = cc (based-by last lines found e)

pub based-bare : (last : ℕ) (lines : List (List ℕ)) (found : Found) → Ok found ≡ or_line last (next_line 1 lines) → is_alone (codes "domain") found.words ≡ false → bare_part found ≡ based last lines
based-bare last lines found e other = cc (based-by last lines found e)
