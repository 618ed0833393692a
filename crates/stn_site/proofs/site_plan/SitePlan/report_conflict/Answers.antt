use Rattle.std.proofs.Common.{◌++◌, ap, ◌∙◌}
use Rattle.stn_site.{specs.Report.IsConflictPart, proofs.Printing.{appended_part, kept_err}}
use Rattle.stn_site.proofs.site_plan.SitePlan.report_conflict.Goals as goal

pub returns : goal.returns
returns g c =
    let grown = c.extend_from_slice in
    let part = c.in_ok-append_conflict.ensures.part in
    record {
      part = appended_part grown.result grown.new.self.items c.args.out.now.items c.deref.result.now part.0 (c.deref.ensures.value ∙ part.2 ∙ ap (λ l. l ++ part.0) c.new-text.ensures.items)
          grown.ensures.items (IsConflictPart c.args.self.now.source c.args.self.now.state) part.1;
      kept = kept_err grown.result grown.new.self.items c.args.out.now.items c.deref.result.now grown.ensures.items;
    }
