use Rattle.std.proofs.Common.{rules}
use Rattle.stn_wire.proofs.States.{state_fits}
use Rattle.stn_session.proofs.replies.append_state.Goals as goal

pub say-requires : goal.say-requires
say-requires g c = search (rules, state_fits)
