use Rattle.std.{proofs.{Common.{rules, ◌≡◌, ℕ, List, Option, unwrap_or, option_map, refl}, lemmas.Result.err_from_is_err_and}, specs.Borrow.Bor}
use Rattle.stn_command.specs.Steps.{around, range_of, range_read}
use Rattle.stn_command.proofs.steps.read_range.Goals as goal

abbrev seen : Bor (List ℕ) × Bor (List ℕ) → List ℕ × List ℕ
seen ends = (ends.0.now, ends.1.now)

seen_ends : (found : Option (Bor (List ℕ) × Bor (List ℕ))) (ends : Bor (List ℕ) × Bor (List ℕ)) → seen (unwrap_or found ends) ≡ unwrap_or (option_map seen found) (seen ends)
seen_ends found ends = search rules

-- the range is that between the two ends
between : (found : Option (Bor (List ℕ) × Bor (List ℕ))) (word : Bor (List ℕ)) (ends : Bor (List ℕ) × Bor (List ℕ)) → ends ≡ unwrap_or found (word, word)
    → option_map seen found ≡ around 45 word.now → range_read word.now ≡ range_of (seen ends)
unfolding range_read
between found word ends is cut = cc (seen_ends found (word, word))

pub returns-in_err-first : goal.returns-in_err-first
returns-in_err-first c =
    let p = err_from_is_err_and c.from_residual.result c.from_residual.ensures.1 in
    rw (p.1, p.2, between c.around.result c.args.word c.unwrap_or.result c.unwrap_or.ensures c.around.ensures, ← c.in_err-first.ensures) refl

pub returns-in_err-last : goal.returns-in_err-last
returns-in_err-last c =
    let p = err_from_is_err_and c.from_residual-in_err-last.result c.from_residual-in_err-last.ensures.1 in
    rw (p.1, p.2, between c.around.result c.args.word c.unwrap_or.result c.unwrap_or.ensures c.around.ensures, ← c.in_ok-first.ensures, ← c.in_err-last.ensures) refl

pub returns : goal.returns
returns c = rw (between c.around.result c.args.word c.unwrap_or.result c.unwrap_or.ensures c.around.ensures, ← c.in_ok-first.ensures, ← c.in_ok-last.ensures) c.steps_between.ensures
