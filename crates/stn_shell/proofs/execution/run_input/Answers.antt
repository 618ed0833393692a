use Rattle.std.{proofs.Common.{◌≡◌, ℕ, Ok, refl, ap, arith}, specs.Prelude.{◌≢◌, ◌==◌, if◌then◌else◌}}
use Rattle.stn_effects.specs.{Effects.{stopped, went}, Printing.device_of}
use Rattle.stn_shell.specs.Outside.{outside}
use Rattle.stn_store.proofs.Lacks.{passed_on}
use Rattle.stn_shell.proofs.execution.run_input.Goals as goal

pub returns-in_err-ran : goal.returns-in_err-ran
returns-in_err-ran g c = rw (passed_on _ _ c.from_residual.ensures.1) (record { status = tt; ran = λ entries err. stopped _ (c.in_err-ran.ensures.runs, refl, refl) refl })

-- the status, by the number of refusals
status_none : (refusals : ℕ) → refusals ≡ 0 → ◌≡◌ {A = ℕ} 0 (if refusals == 0 then 0 else 1)
status_none refusals none = grind arith

status_some : (refusals : ℕ) → refusals ≢ 0 → ◌≡◌ {A = ℕ} 1 (if refusals == 0 then 0 else 1)
status_some refusals some = grind arith

pub returns-then-ran-eq0-clause-ran : goal.returns-then-ran-eq0-clause-ran
returns-then-ran-eq0-clause-ran g c = λ entries err.
    went c.in_ok-ran.ran (outside entries (device_of g.R.Read.remaining c.run.new.reader) (device_of g.W.Write.contents c.run.new.writer) err) (c.in_ok-ran.ensures.runs, refl, refl)
    (refl, ap Ok (status_none c.in_ok-ran.ran.refused c.if-ran-eq0.true))

pub returns-else-ran-eq0-clause-ran : goal.returns-else-ran-eq0-clause-ran
returns-else-ran-eq0-clause-ran g c = λ entries err.
    went c.in_ok-ran.ran (outside entries (device_of g.R.Read.remaining c.run.new.reader) (device_of g.W.Write.contents c.run.new.writer) err) (c.in_ok-ran.ensures.runs, refl, refl)
    (refl, ap Ok (status_some c.in_ok-ran.ran.refused c.if-ran-eq0.false))
