use Rattle.std.proofs.Common.{Some, refl, ap, inl, inr, ⊎_elim}
use Rattle.stn_store.proofs.{Lacks.passed_on, Failed.{take_failed}}
use Rattle.stn_store.proofs.merging.take_in.Goals as goal

pub returns-in_err-find_same : goal.returns-in_err-find_same
returns-in_err-find_same g c =
    let other = rw (c.base.ensures, c.plan.ensures.source, c.base-2.ensures) at c.in_err-find_same.ensures in
    rw (passed_on _ _ c.from_residual.ensures.1) (record {
      same = tt;
      left = tt;
      accepted = tt;
      refused = inr (inl (other.0, ap Some other.1));
      kept = refl;
    })

pub returns-in_err-take : goal.returns-in_err-take
returns-in_err-take g c =
    let same = rw (c.base.ensures, c.plan.ensures.source, c.base-2.ensures) at c.in_ok-find_same.ensures in
    rw (passed_on _ _ c.from_residual-in_err-take.ensures.1) (record {
      same = tt;
      left = tt;
      accepted = tt;
      refused = ⊎_elim inl (λ refusal. inr (inr (same, refusal))) (take_failed _ _ (rw c.records.ensures.value at c.in_err-take.ensures.fault));
      kept = c.in_err-take.ensures.kept;
    })

pub returns : goal.returns
returns g c = record {
  same = rw (c.base.ensures, c.plan.ensures.source, c.base-2.ensures) at c.in_ok-find_same.ensures;
  left = rw c.records.ensures.value at c.in_ok-take.ensures.leaves;
  accepted = rw c.records.ensures.value at c.in_ok-take.ensures.accepted;
  refused = tt;
  kept = tt;
}
