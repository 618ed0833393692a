use Rattle.std.proofs.Common.{rules}
use Rattle.stn_loosen.{specs.{Loosened.Imply, Making.made_bounds}, proofs.making.Making.make_order.{Given.Over, Goals.Else-implies}}
use Rattle.stn_loosen.proofs.making.Making.make_order.Goals as goal

-- the order is needed
needed : (g : Over) (c : Else-implies g) → Imply (made_bounds c.args.self.now) c.args.order → ⊥
needed g c implied = search rules

pub returns-then-implies-clause-made : goal.returns-then-implies-clause-made
returns-then-implies-clause-made g c = search rules
