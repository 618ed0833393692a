use Rattle.std.{proofs.{lemmas.List.take_all, Common.{rules, refl, subst, All}}, specs.FinMap.entries}
use Rattle.stn_net.specs.Difference.{NamesEvents}
use Rattle.stn_site.proofs.Places.{walked_are, seen_with}
use Rattle.stn_site.proofs.site_plan.all_name_events.Goals as goal

pub loop-record-preserved : goal.loop-record-preserved
loop-record-preserved g c =
    let items = walked_are c.args.records.now c.state.result.now c.additions.result.now c.entries-record-items.result.now c.entries-record-items.ensures.value c.additions.ensures c.state.ensures.value in
    seen_with (λ entry. NamesEvents c.args.events entry.1.bound) (entries c.args.records.now.additions) c.entries-record-items.result.now c.loop-record.record-index c.loop-record-item.result items
    c.loop-record-test.true c.loop-record-item.is c.loop-record.invariant (c.if-not-names_events.ensures.0 refl)

pub returns : goal.returns
returns g c =
    let items = walked_are c.args.records.now c.state.result.now c.additions.result.now c.entries-record-items.result.now c.entries-record-items.ensures.value c.additions.ensures c.state.ensures.value in (
      λ _. subst (All (λ entry. NamesEvents c.args.events entry.1.bound))
          (search (rules, take_all)) c.loop-record.invariant,
      λ _. refl,
    )
