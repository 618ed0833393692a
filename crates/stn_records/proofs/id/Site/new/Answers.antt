use Rattle.std.proofs.Common.{rules}
use Rattle.stn_records.proofs.id.Site.new.Goals as goal

pub invariant_of-result : goal.invariant_of-result
invariant_of-result c = search rules
