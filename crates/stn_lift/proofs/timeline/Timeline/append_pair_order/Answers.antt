use Rattle.std.proofs.{Common.sym, lemmas.List.append-nil}
use Rattle.stn_lift.proofs.timeline.Timeline.append_pair_order.Goals as goal

pub returns-then-not-are_ordered : goal.returns-then-not-are_ordered
returns-then-not-are_ordered g c = rw (← c.are_ordered.ensures, c.if-not-are_ordered.true) (sym (append-nil _))
