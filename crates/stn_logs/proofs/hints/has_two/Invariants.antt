use Rattle.std.{proofs.Common.{◌≡◌, ◌+◌}, specs.Int.from_bool}
use Rattle.stn_logs.{specs.Hints.done_count, proofs.Done.done_in}
use Rattle.stn_logs.proofs.hints.has_two.Given as goal

abbrev pub invariant-loop-one : goal.invariant-loop-one
invariant-loop-one g l = done_count l.records l.event ≡ from_bool l.once + done_in l.event l.one-iterator
