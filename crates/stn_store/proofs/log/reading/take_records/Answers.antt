use Rattle.std.proofs.Common.{◌∙◌}
use Rattle.stn_store.{specs.Log.log_held, proofs.{Lacks.passed_on, log.Takes.{take_refused, state_taken}}}
use Rattle.stn_store.proofs.log.reading.take_records.Goals as goal

pub returns-in_err-take-in-Some : goal.returns-in_err-take-in-Some
returns-in_err-take-in-Some g c =
    rw (passed_on _ _ c.from_residual.ensures.1) (record {
      taken = tt;
      refused = rw (c.in-Some.ensures (log_held c.args.plan.now)) (take_refused c.args.version c.args.plan.now c.in-Some.records.now c.in_err-take-in-Some.ensures.fault);
      site = tt;
    })

pub returns-in_ok-take-in-Some-clause-taken : goal.returns-in_ok-take-in-Some-clause-taken
returns-in_ok-take-in-Some-clause-taken g c =
    c.in-Some.ensures (log_held c.args.plan.now)
    ∙ state_taken c.in_ok-take-in-Some.ensures.accepted c.in_ok-take-in-Some.ensures.leaves
