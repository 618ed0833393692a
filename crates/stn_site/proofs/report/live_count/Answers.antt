use Rattle.std.proofs.{Common.{inl, arith}, lemmas.{Grind.common_steps, Iterator.Consumers.{YieldsList-from_rest, count_from_yields_List}}}
use Rattle.stn_records.specs.Content.{live_of}
use Rattle.stn_site.proofs.Count.{live_within}
use Rattle.stn_site.proofs.report.live_count.Goals as goal

pub count-requires-clause-fits : goal.count-requires-clause-fits
count-requires-clause-fits g c = inl (grind (arith, common_steps, live_within c.args.records.now))

pub overflow_cast-result : goal.overflow_cast-result
overflow_cast-result g c = grind (arith, common_steps, live_within c.args.records.now)

pub returns : goal.returns
returns g c = count_from_yields_List c.live_records.result c.count.result c.count.ensures.ran (YieldsList-from_rest (live_of c.args.records.now) c.live_records.ensures.live)
