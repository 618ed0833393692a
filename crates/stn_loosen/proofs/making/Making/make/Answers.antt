use Rattle.stn_loosen.proofs.Implied.{taken_more}
use Rattle.stn_loosen.proofs.making.Making.make.Goals as goal

pub invariant_of-self-2 : goal.invariant_of-self-2
invariant_of-self-2 g c =
    taken_more c.self.inside.records.items c.push.new.self.items c.args.bound c.self.inside.matrix c.tighten-fits.new.self c.tighten-fits.result c.in_ok-push.ensures.items
    (rw (← c.self.view_is) at c.requires.room) c.self.invariant
    (rw (← c.self.view_is) at c.requires.possible) c.tighten-fits.ensures.possible c.tighten-fits.ensures.exact c.tighten-fits.ensures.events
