use Rattle.std.proofs.Common.{rules}
use Rattle.stn_text.{specs.Faults.{Returns}, proofs.Readings.filled}
use Rattle.stn_pddl.{specs.{Tree.Cursors.row_at, Faults.is_memory, Actions.named_action, Views.{action_schema, bytes_of_name}}, proofs.SoundActions.new-name}
use Rattle.stn_pddl.proofs.domain.read_action.Goals as goal

pub returns : goal.returns
returns g c =
    let given : Returns is_memory action_schema c.and.result (named_action c.args.line (bytes_of_name c.in_ok-name.name) (row_at c.in_ok-name.rest)) = search (rules, filled)
    in
    record {
      given = rw c.in_ok-name.ensures.named given;
      new = new-name c.and.result c.args.line _ _ _ given c.in_ok-name.ensures.new;
    }
