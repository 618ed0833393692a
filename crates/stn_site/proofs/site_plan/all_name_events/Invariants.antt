use Rattle.std.{proofs.Common.{take, All}, specs.FinMap.entries}
use Rattle.stn_net.specs.Difference.{NamesEvents}
use Rattle.stn_site.proofs.site_plan.all_name_events.Given as goal

abbrev pub invariant-loop-record : goal.invariant-loop-record
invariant-loop-record g l = All (λ entry. NamesEvents l.events entry.1.bound) (take l.record-index (entries l.records.additions))
