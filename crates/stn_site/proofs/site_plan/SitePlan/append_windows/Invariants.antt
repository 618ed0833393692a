use Rattle.std.proofs.Common.{◌≡◌, ℕ, ◌+◌, ◌*◌, ◌≤◌, ◌++◌, List, length}
use Rattle.stn_site.specs.{Bounds.all_bounds, Report.{is_done, IsWindowLines}, declared.lines.TheConstants.MOST_LINE}
use Rattle.stn_site.proofs.site_plan.SitePlan.append_windows.Given as goal

abbrev pub invariant-loop-before : goal.invariant-loop-before
invariant-loop-before g l = record {
  lines : (text : List ℕ) × IsWindowLines (all_bounds l.self.source l.self.state) (is_done l.self.state) l.before text × (l.out.items ≡ l.initial.out.items ++ text);
  short : length l.out.items ≤ length l.initial.out.items + MOST_LINE * l.before;
}
