use Rattle.std.{proofs.Common.{◌≡◌, ◌++◌, ◌∙◌, ap, inr, List, ℕ, rules}, specs.List.flat_map}
use Rattle.stn_lift.specs.PlanSource.{base_bounds}
use Rattle.stn_records.specs.{Id.SiteCounter, Content.live_of}
use Rattle.stn_conflict.proofs.CycleSums.{negative_no_schedule}
use Rattle.stn_site.specs.Bounds.{bounds_of}
use Rattle.stn_repairs.specs.Text.{repair_line, drop_line}
use Rattle.stn_repairs.proofs.print.text_of.Goals as goal

pub returns : goal.returns
returns g c =
    let all : c.bounds.result.now ++ c.deref-2.result.now ≡ base_bounds c.args.plan.now.source ++ bounds_of (live_of c.args.plan.now.state) = search rules in
    inr (record {
      conflict = rw (← all) (negative_no_schedule _ c.in-Some.found.links.items (rw c.in-Some.is at c.in_ok-found.ensures.negative));
      repairs = c.in_ok-repairs.repairs.items;
      are = rw (c.deref-3.ensures.value ∙ c.in_ok-live.ensures.live) at c.in_ok-repairs.ensures;
      dropped = c.in_ok-ids.ids.items;
      drop = rw (c.deref-5.ensures.value ∙ c.in_ok-live.ensures.live) at c.in_ok-ids.ensures;
      whole = c.in_ok-append_dropped.ensures
          ∙ ap (λ (text : List ℕ). text ++ drop_line c.deref-7.result.now) (c.in_ok-append_repairs.ensures ∙ (λ i. c.new-text.ensures.items i ++ flat_map repair_line (c.deref-6.ensures.value i)))
          ∙ ap (λ (ids : List SiteCounter). flat_map repair_line c.in_ok-repairs.repairs.items ++ drop_line ids) c.deref-7.ensures.value;
    })
