use Rattle.stn_records.{proofs.{Replaced.kept_by_withdrawal}}
use Rattle.stn_records.proofs.state.State.withdraw.Goals as goal

pub invariant_of-self-2 : goal.invariant_of-self-2
invariant_of-self-2 g c = kept_by_withdrawal c.self.inside.tombstones c.self.inside.replaced c.insert.new.self c.in_ok-replaced.replaced c.self.inside.replacements c.args.id c.self.invariant c.in_ok-insert.ensures.inserted c.in_ok-replaced.ensures
