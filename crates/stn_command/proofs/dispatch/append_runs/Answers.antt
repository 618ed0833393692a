use Rattle.stn_command.proofs.Foresight.{runs_ended}
use Rattle.stn_command.proofs.dispatch.append_runs.Goals as goal

pub returns : goal.returns
returns g c =
    runs_ended c.extend_from_slice.result c.args.runs.now c.loop-run.run-index c.args.out.now.items c.loop-run.out.items c.extend_from_slice.new.self.items
    c.loop-run-test.false c.loop-run.invariant c.extend_from_slice.ensures.items
