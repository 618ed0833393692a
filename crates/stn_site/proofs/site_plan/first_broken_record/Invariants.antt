use Rattle.std.proofs.Common.{◌≡◌, All, find, not}
use Rattle.stn_net.specs.Schedule.{NamesTimes, times_of}
use Rattle.stn_site.specs.Names.{is_met, broken_record}
use Rattle.stn_site.proofs.site_plan.first_broken_record.Given as goal

abbrev pub invariant-loop-id : goal.invariant-loop-id
invariant-loop-id g l = record {
  first : find (λ entry. not (is_met (times_of l.times) entry.1.bound)) l.id-iterator ≡ broken_record l.records (times_of l.times);
  timed : All (λ entry. NamesTimes l.times entry.1.bound) l.id-iterator;
}
