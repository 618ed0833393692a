use Rattle.stn_loosen.proofs.Implied.{searched_more}
use Rattle.stn_loosen.proofs.making.Moving.with.Goals as goal

pub invariant_of-result : goal.invariant_of-result
invariant_of-result g c =
    searched_more c.self.inside.records.items c.push.new.self.items c.args.bound c.self.inside.matrix c.self.inside.network c.push-2.new.self c.self.invariant c.in_ok-push.ensures.items c.in_ok-push-2.ensures.pushed
