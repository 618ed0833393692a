use Rattle.std.{proofs.Common.{◌≡◌, ◌+◌, ◌*◌, ◌≤◌, ◌++◌, take, length}, specs.List.flat_map}
use Rattle.stn_site.specs.{Lines.link_line, declared.lines.TheConstants.MOST_LINE}
use Rattle.stn_site.proofs.report.append_link_lines.Given as goal

abbrev pub invariant-loop-link : goal.invariant-loop-link
invariant-loop-link g l = (l.out.items ≡ l.initial.out.items ++ flat_map (link_line l.base l.ids l.others) (take l.link-index l.links))
    × (length l.out.items ≤ length l.initial.out.items + MOST_LINE * l.link-index)
