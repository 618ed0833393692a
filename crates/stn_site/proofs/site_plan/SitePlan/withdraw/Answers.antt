use Rattle.std.{proofs.{Common.refl, lemmas.{Bool.false≢true, Result.err_from_is_err_and}}, specs.Rc.rc_value}
use Rattle.stn_records.specs.Refusals.{withdrawal_refusal as records_withdraw}
use Rattle.stn_site.{specs.{Held.Held, Refusals.withdraw_refusal}, proofs.Refused.{told, let_through, withdrawn}}
use Rattle.stn_site.proofs.site_plan.SitePlan.withdraw.Goals as goal

pub returns-in_err-withdraw : goal.returns-in_err-withdraw
returns-in_err-withdraw g c =
    let p = err_from_is_err_and c.from_residual.result c.from_residual.ensures.1 in
    let held : Held = record { site = c.self.inside.site; source = rc_value c.self.inside.base; state = c.self.inside.records; steps = 0 } in
    rw (p.1, p.2, ← c.self.view_is) (record {
      leaves = tt;
      again = λ there. absurd (false≢true (c.in_err-withdraw.ensures.again there).0);
      accepted = tt;
      fault = told (records_withdraw held.state c.args.id) (withdraw_refusal held c.args.id) (withdrawn held c.args.id) c.in_err-withdraw.field-0.0 c.in_err-withdraw.ensures.fault;
      kept = λ i. record held { state = c.in_err-withdraw.ensures.kept i };
    })

pub returns : goal.returns
returns g c =
    let held : Held = record { site = c.self.inside.site; source = rc_value c.self.inside.base; state = c.self.inside.records; steps = 0 } in
    rw (← c.self.view_is) (record {
      leaves = record { site = refl; source = refl; state = c.in_ok-withdraw.ensures.withdrawn };
      again = λ there. (refl, λ i. record held { state = (c.in_ok-withdraw.ensures.again there).1 i });
      accepted = let_through (records_withdraw held.state c.args.id) (withdraw_refusal held c.args.id) (withdrawn held c.args.id) c.in_ok-withdraw.ensures.accepted;
      fault = tt;
      kept = tt;
    })
