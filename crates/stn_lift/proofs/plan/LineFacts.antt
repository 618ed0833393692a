-- How the first line of a text is taken off.
use Rattle.std.proofs.{lemmas.Grind.common_steps, Common.{arith, ◌≡◌, ℕ, ◌+◌, List, [], ◌∷◌, length, refl}}
use Rattle.stn_text.specs.Lines as text
use Rattle.stn_lift.specs.Plan.Lines.{lines_from}

-- no text, no lines
pub no_lines : (number : ℕ) (bytes : List ℕ) → length bytes ≡ 0 → lines_from number bytes ≡ []
unfolding lines_from text.lines_of
no_lines number bytes e = grind (arith, common_steps)

-- the first line, and the lines after it
pub lines_cut : (number : ℕ) (bytes line behind : List ℕ) → text.lines_of bytes ≡ line ∷ text.lines_of behind
    → lines_from number bytes ≡ (number, line) ∷ lines_from (number + 1) behind
unfolding lines_from
lines_cut number bytes line behind e = rw e refl
