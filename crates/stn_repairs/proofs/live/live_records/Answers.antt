use Rattle.std.proofs.{Common.{rules, ap, ◌∙◌}, lemmas.Iterator.{items_from_collect, Consumers.YieldsList-from_rest}}
use Rattle.stn_records.{specs.Content.live_of, proofs.Live.live_sorted}
use Rattle.stn_site.proofs.Named.{live_named}
use Rattle.stn_repairs.proofs.live.live_records.Goals as goal

pub returns-clause-live : goal.returns-clause-live
returns-clause-live g c =
    items_from_collect c.collect.result c.collect.ensures.ran (YieldsList-from_rest (live_of c.args.plan.now.state) (c.live_records.ensures.live ∙ ap live_of c.records.ensures.value))

pub returns-clause-named : goal.returns-clause-named
returns-clause-named g c = search (rules, live_named)

pub returns-clause-in_order : goal.returns-clause-in_order
returns-clause-in_order g c = live_sorted c.args.plan.now.state
