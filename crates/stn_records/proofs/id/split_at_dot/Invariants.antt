use Rattle.std.proofs.Common.{◌≢◌, take, All}
use Rattle.stn_records.proofs.id.split_at_dot.Given as goal

abbrev pub invariant-loop-place : goal.invariant-loop-place
invariant-loop-place l = All (λ byte. byte ≢ 46) (take l.place l.text)
