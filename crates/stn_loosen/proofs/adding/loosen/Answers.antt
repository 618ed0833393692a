use Rattle.std.proofs.Common.{◌≡◌, Ok, inr, sym, ap, ◌∙◌, subst}
use Rattle.stn_lift.specs.PlanSource.{PlanSource, base_of}
use Rattle.stn_site.specs.{Bounds.all_bounds, Held.Held}
use Rattle.stn_loosen.{specs.Asked.{Keep}, proofs.Refused.not_refused}
use Rattle.stn_loosen.proofs.adding.loosen.Goals as goal

pub returns : goal.returns
returns g c =
    let base : PlanSource = c.in_ok-base.base in
    let robust = c.args.robust in
    let slack = c.args.tolerance in
    let held : Held = c.in_ok-plan_with.field-0 in
    let records = c.in_ok-records.records.items in
    let is = c.in_ok-records.ensures in
    let plan = rw c.deref.ensures.value at c.in_ok-plan_with.ensures in
    let based : base_of base ≡ Ok base = rw (← c.in_ok-base.ensures.made) at c.in_ok-base.ensures.given in
    rw (← c.in_ok-base.ensures.made) (record {
      site = plan.site;
      source = plan.source;
      loosened = record {
        base = based;
        records = (records, (is.records, is.few), plan.holds);
        keep = subst (Keep robust base slack) (sym plan.bounds ∙ ap (λ (source : PlanSource). all_bounds source held.state) plan.source) is.keep;
      };
      accepted = inr (based, not_refused robust base slack records _ (is.records, is.few) is.keep);
      refused = tt;
    })
