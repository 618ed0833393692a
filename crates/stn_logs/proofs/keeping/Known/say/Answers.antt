use Rattle.stn_command.specs.Query.{seen_query}
use Rattle.stn_logs.proofs.Spelled.{answered_of}
use Rattle.stn_logs.proofs.keeping.Known.say.Goals as goal

pub remember-requires : goal.remember-requires
remember-requires g c = answered_of (seen_query c.args.query.now) c.args.self.now c.in-Ok.text.items c.of-answered.result (rw c.deref.ensures.value at c.of-answered.ensures) c.in-Ok.ensures
