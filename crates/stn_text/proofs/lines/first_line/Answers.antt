use Rattle.std.proofs.{Common.{rules, ◌≡◌, ℕ, List, ◌+◌, ◌-◌, arith, sym, inl, inr, refl, take, drop, length}, lemmas.List.{take_all, length-drop}}
use Rattle.stn_text.proofs.Splits.{cut_found, lines_of-found, lines_of-whole}
use Rattle.stn_text.proofs.lines.first_line.Goals as goal

-- what stands after a place
behind : (text : List ℕ) (place : ℕ) → take (length text - place) (drop place text) ≡ drop place text
behind text place = take_all _ _ (omega (arith, length-drop place text))

pub returns-in-Some-clause-lines : goal.returns-in-Some-clause-lines
returns-in-Some-clause-lines c =
    rw (behind c.args.text.now (c.in-Some.end + 1)) (lines_of-found c.args.text.now c.in-Some.end (sym c.in-Some.ensures))

pub returns-in-None-clause-lines : goal.returns-in-None-clause-lines
returns-in-None-clause-lines c = lines_of-whole c.args.text.now c.requires (sym c.in-None.ensures)

pub returns-in-Some-clause-bytes : goal.returns-in-Some-clause-bytes
returns-in-Some-clause-bytes c = inl (rw (behind c.args.text.now (c.in-Some.end + 1)) (cut_found (sym c.in-Some.ensures)))

pub returns-in-Some-clause-shorter : goal.returns-in-Some-clause-shorter
returns-in-Some-clause-shorter c = search rules

pub returns-in-None-clause-bytes : goal.returns-in-None-clause-bytes
returns-in-None-clause-bytes c = inr (refl, refl)
