use Rattle.stn_records.proofs.Live.{live_are}
use Rattle.stn_records.proofs.records.Records.live_records.Goals as goal

pub returns-clause-live : goal.returns-clause-live
returns-clause-live g c = cc (live_are c.args.self.now c.added.result.now c.replaced.result.now c.added.ensures.value c.replaced.ensures.value)
