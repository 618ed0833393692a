use Rattle.std.{proofs.Common.{◌≡◌, ◌++◌, take}, specs.List.flat_map}
use Rattle.stn_command.specs.Dispatch.{run_line}
use Rattle.stn_command.proofs.dispatch.append_runs.Given as goal

abbrev pub invariant-loop-run : goal.invariant-loop-run
invariant-loop-run g l = l.out.items ≡ l.initial.out.items ++ flat_map (λ run. run_line run.0 run.1) (take l.run-index l.runs)
