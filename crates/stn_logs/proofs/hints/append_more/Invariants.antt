use Rattle.std.proofs.Common.{◌≡◌, ◌++◌, take}
use Rattle.stn_logs.specs.Hints.{more_text}
use Rattle.stn_logs.proofs.hints.append_more.Given as goal

abbrev pub invariant-loop-hint : goal.invariant-loop-hint
invariant-loop-hint g l = l.out.items ≡ l.initial.out.items ++ more_text (take l.hint-index l.hints)
