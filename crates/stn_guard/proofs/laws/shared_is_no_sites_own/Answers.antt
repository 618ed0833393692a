use Rattle.std.proofs.{Common.rules, lemmas.Bool.false≢true}
use Rattle.stn_guard.proofs.Owned.{own_or_shared, shared_not_own}
use Rattle.stn_guard.proofs.laws.shared_is_no_sites_own.Goals as goal

pub returns : goal.returns
returns c = λ owner bound. search (rules, shared_not_own, own_or_shared, false≢true)
