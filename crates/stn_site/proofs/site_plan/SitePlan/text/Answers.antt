use Rattle.std.proofs.Common.{rules, ◌≡◌, ◌++◌, inl, inr, ap, ◌∙◌}
use Rattle.stn_site.{specs.Report.heading, proofs.site_plan.SitePlan.text.Goals.{in-Some+in_ok-append_windows-in-Some, in-None+in_ok-append_conflict-in-None}}
use Rattle.stn_site.proofs.site_plan.SitePlan.text.Goals as goal

pub returns-clause-report : goal.returns-clause-report
returns-clause-report g c =
    let first = heading c.args.self.now.source c.args.self.now.state in
    let front : c.append_heading.new.out.items ≡ first = search rules in
    elim c.match-windows.branch [
      | in-Some+in_ok-append_windows-in-Some w ↦
          let part = w.in_ok-append_windows-in-Some.ensures.part in
          record { rest = part.0; part = inl part.1; whole = (λ i. (w.text-is i).items) ∙ part.2 ∙ ap (λ l. l ++ part.0) front }
      | in-None+in_ok-append_conflict-in-None w ↦
          let part = w.in_ok-append_conflict-in-None.ensures.part in
          record { rest = part.0; part = inr part.1; whole = (λ i. (w.text-is i).items) ∙ part.2 ∙ ap (λ l. l ++ part.0) front }
    ]
