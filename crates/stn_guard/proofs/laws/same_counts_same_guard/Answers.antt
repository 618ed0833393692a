use Rattle.std.{proofs.Common.{◌≡◌, not, List, ◌++◌, filter, subst}, specs.FinMap.{entries, contains_key}}
use Rattle.stn_net.specs.{Difference.Difference, Schedule.HasSchedule}
use Rattle.stn_lift.specs.PlanSource.{base_bounds, events_of}
use Rattle.stn_site.specs.Bounds.{bounds_of, all_bounds}
use Rattle.stn_guard.{specs.Making.IsGuardOf, proofs.{OneGuard.one_made, SameOwners.same_guard}}
use Rattle.stn_guard.proofs.laws.same_counts_same_guard.Goals as goal

pub returns : goal.returns
returns c = λ source state like owner other one last counts same named possible first second.
    let bounds : all_bounds source state ≡ all_bounds source like =
    (λ i. base_bounds source ++ bounds_of (filter (λ entry. not (contains_key (counts.replaced i) entry.0)) (entries (counts.additions i)))) in
    one_made other (events_of source) (all_bounds source like) one last (subst HasSchedule bounds possible)
    (subst (λ (l : List Difference). IsGuardOf other (events_of source) l one) bounds (same_guard owner other (events_of source) same (all_bounds source state) named first)) second
