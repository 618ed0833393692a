use Rattle.std.proofs.Common.{take}
use Rattle.stn_loosen.specs.Making.{AreMadeBehind}
use Rattle.stn_loosen.proofs.making.Making.make_orders.Given as goal

abbrev pub invariant-loop-order : goal.invariant-loop-order
invariant-loop-order g l = AreMadeBehind l.initial.self (take l.order-index l.orders) l.self
