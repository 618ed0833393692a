use Rattle.std.{proofs.Common.{refl, sym, ap, inl, inr, ⊎_elim}, specs.Prelude.option_map}
use Rattle.stn_effects.specs.Effects.{stopped, went}
use Rattle.stn_site.specs.Failures.{replica_failure}
use Rattle.stn_store.proofs.Lacks.{lack_of_memory, passed_on}
use Rattle.stn_logs.specs.Commands.{updated}
use Rattle.stn_logs.proofs.changes.merge_log.Goals as goal

pub returns-in_err-theirs : goal.returns-in_err-theirs
returns-in_err-theirs g c = rw (passed_on _ _ c.from_residual.ensures.1) (stopped _ (refl, c.in_err-theirs.ensures.failed) refl)

pub returns-in_err-take_in : goal.returns-in_err-take_in
returns-in_err-take_in g c =
    let opened = rw c.site.ensures at c.in_ok-theirs.ensures.opened in
    rw (passed_on _ _ c.from_residual-in_err-take_in.ensures.1) (went c.in_ok-theirs.theirs _ (refl, opened)
    (refl, ⊎_elim (λ memory. inr (lack_of_memory _ _ memory)) inl c.in_err-take_in.ensures.refused))

pub returns-in_err-from_slice : goal.returns-in_err-from_slice
returns-in_err-from_slice g c =
    let opened = rw c.site.ensures at c.in_ok-theirs.ensures.opened in
    rw (passed_on _ _ c.from_residual-in_err-from_slice.ensures.1) (went c.in_ok-theirs.theirs _ (refl, opened) (refl, inr (lack_of_memory g.S.Store.fails _ refl)))

pub returns : goal.returns
returns g c =
    let opened = rw c.site.ensures at c.in_ok-theirs.ensures.opened in
    let taken = c.in_ok-take_in.ensures in
    went c.in_ok-theirs.theirs _ (refl, opened) (
      refl,
      (taken.same, (c.take_in.new.copy, taken.left, ap (updated c.take_in.new.copy) c.in_ok-from_slice.ensures.items)),
      inr (taken.same, sym (ap (option_map replica_failure) taken.accepted)),
    )
