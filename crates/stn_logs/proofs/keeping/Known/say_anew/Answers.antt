use Rattle.stn_command.{specs.Query.seen_query, proofs.Alike.said_of}
use Rattle.stn_logs.proofs.keeping.Known.say_anew.Goals as goal

pub returns : goal.returns
returns g c = said_of c.plan.result.now c.args.self.now c.plan.ensures.source c.plan.ensures.state (seen_query c.args.query.now) c.say.result c.say.ensures
