use Rattle.std.{proofs.{Common.{rules, ◌≡◌, ℕ, ℤ, List, Option, Ok, Err, refl, sym}, lemmas.Result.err_from_is_err_and}, specs.{Borrow.Bor, Prelude.neg_ℤ}}
use Rattle.stn_time.specs.Time.{horizon}
use Rattle.stn_asked.specs.{Words.{bound_read, event_read, moment_or}, declared.words.RefusedWord.RefusedWord}
use Rattle.stn_asked.proofs.words.read_bound.Goals as goal

-- all four words are read
told : (from to : Bor (List ℕ)) (lo hi : Option (Bor (List ℕ))) (first second : ℕ) (least greatest : ℤ) → Ok first ≡ event_read from → Ok second ≡ event_read to
    → Ok least ≡ moment_or (neg_ℤ horizon) lo → Ok greatest ≡ moment_or horizon hi → Ok (record { from = first; to = second; lo = least; hi = greatest }) ≡ bound_read from to lo hi
unfolding bound_read
told from to lo hi first second least greatest h5 h6 h7 h8 = search rules

-- the first word names no event
refused_first : (from to : Bor (List ℕ)) (lo hi : Option (Bor (List ℕ))) (refused : RefusedWord) → Err refused ≡ event_read from → Err refused ≡ bound_read from to lo hi
unfolding bound_read
refused_first from to lo hi refused e = rw (sym e) refl

pub returns-in_err-from : goal.returns-in_err-from
returns-in_err-from c =
    let p = err_from_is_err_and c.from_residual.result c.from_residual.ensures.1 in
    rw (p.1, p.2) (refused_first _ _ _ _ _ c.in_err-from.ensures)

pub returns : goal.returns
returns c =
    rw c.new-3.ensures
    (told c.args.from c.args.to c.args.lo c.args.hi _ _ _ _ c.in_ok-from.ensures c.in_ok-to.ensures
    (rw (rw c.unwrap.ensures at c.new.ensures.value) at c.in_ok-lo.ensures) (rw (rw c.unwrap-2.ensures at c.new-2.ensures.value) at c.in_ok-hi.ensures))
