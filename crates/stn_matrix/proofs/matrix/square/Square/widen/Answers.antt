use Rattle.std.proofs.Common.{arith}
use Rattle.stn_matrix.proofs.matrix.square.Square.widen.Goals as goal

pub returns : goal.returns
returns g c =
    let h = c.loop-event.invariant.widened in
    record {
      events = c.loop-event.invariant.events;
      widest = record {
        origin = λ x within. h.origin x (omega arith) within;
        itself = λ x within. h.itself x (omega arith) within;
        others = h.others;
      };
    }
