use Rattle.std.proofs.Common.{◌≡◌, ◌++◌, map}
use Rattle.stn_records.specs.Content.{listed, live_of}
use Rattle.stn_records.proofs.records.Records.live.Given as goal

abbrev pub invariant-loop-id : goal.invariant-loop-id
invariant-loop-id g l = l.all.items ++ map listed l.id-iterator ≡ map listed (live_of l.fn.self)
