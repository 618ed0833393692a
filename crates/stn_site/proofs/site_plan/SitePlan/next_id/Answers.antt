use Rattle.std.proofs.Common.{ap, ◌∙◌}
use Rattle.stn_records.specs.Id.{SiteCounter}
use Rattle.stn_site.{specs.Held.next_id, proofs.Values.{held_is, not_past}}
use Rattle.stn_site.proofs.site_plan.SitePlan.next_id.Goals as goal

pub returns : goal.returns
returns g c =
    let id : SiteCounter = record { site = c.self.inside.site; counter = c.in_ok-counter.counter } in
    let is = held_is c.new.result c.unwrap.result id c.unwrap.ensures c.new.ensures.value in
    record {
      next = is ∙ (λ i. record { site = c.self.inside.site; counter = c.in_ok-counter.ensures.next i }) ∙ ap next_id c.self.view_is;
      unknown = rw (is, ← c.self.view_is) c.in_ok-counter.ensures.new;
      left = rw (← c.self.view_is) (not_past _ c.in_ok-counter.ensures.spent.1);
      spent = tt;
    }
