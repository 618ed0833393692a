use Rattle.std.proofs.{Common.{rules, ap, ◌∙◌}, lemmas.Iterator.{items_from_collect, YieldsList-from_map, Consumers.YieldsList-from_rest}}
use Rattle.stn_lift.specs.PlanSource.{events_of}
use Rattle.stn_records.specs.{Id.SiteCounter, declared.record.Record.Record, Content.live_of}
use Rattle.stn_site.proofs.Named.{live_named}
use Rattle.stn_site.proofs.site_plan.SitePlan.live_bounds.Goals as goal

pub returns-clause-value : goal.returns-clause-value
returns-clause-value g c = items_from_collect c.collect.result c.collect.ensures.ran
    (YieldsList-from_map _ (λ (entry : SiteCounter × Record). entry.1.bound)
    (YieldsList-from_rest (live_of c.args.self.now.state) (c.map.ensures.source ∙ c.live_records-live.ensures.live ∙ ap live_of c.records.ensures.value)) c.map.ensures.closure (λ x r q called. search rules))

pub returns-clause-named : goal.returns-clause-named
returns-clause-named g c = live_named (events_of c.args.self.now.source) c.args.self.now.state c.records.ensures.named
