use Rattle.std.{proofs.Common.{◌≡◌, filter, take}, specs.Set.is_member}
use Rattle.stn_records.specs.Content.{same_ids}
use Rattle.stn_records.proofs.sorted.among.Given as goal

abbrev pub invariant-loop-entry : goal.invariant-loop-entry
invariant-loop-entry g l = l.all.items ≡ filter (λ entry. is_member same_ids l.ids entry.0) (take l.entry-index l.entries)
