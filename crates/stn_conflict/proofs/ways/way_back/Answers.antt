use Rattle.std.{proofs.{Common.{rules, ◌≡◌, ℕ, suc, Some, length, sym, arith, ap, ◌∙◌}, lemmas.{List.length_push, Option.MatchOption-at_none}}, specs.Prelude.unwrap_or}
use Rattle.stn_conflict.{specs.{Arcs.arc_of, Search.{level_at, HasNoStep, IsFirstStepTo}}, proofs.{Tightness.link_among, OneCycle.level_of_start, LevelTable.some_same, Steps.{lower_by_one, at_start, chain_before_way}, ways.way_back.Given.Over}}
use Rattle.stn_conflict.proofs.ways.way_back.Goals as goal

-- the link that is taken is the first step to the event
taken : (g : Over) (c : goal.In_ok-push g) → IsFirstStepTo c.args.graph.now.bounds c.args.start c.loop-link.here c.in-Some.link
taken g c = search rules

-- and begins one level lower
lower : (g : Over) (c : goal.In_ok-push g) → (level : ℕ) × (level_at c.in_ok-levels.levels.items (arc_of c.args.graph.now.bounds c.in-Some.link).from ≡ Some level)
    × (level_at c.in_ok-levels.levels.items c.loop-link.here ≡ Some (suc level))
lower g c =
    lower_by_one
    c.in_ok-levels.ensures.levels (taken g c)

pub arc-here-requires : goal.arc-here-requires
arc-here-requires g c = (taken g c).first.step.tight.there

pub loop-link-smaller : goal.loop-link-smaller
loop-link-smaller g c =
    let levels = c.in_ok-levels.levels.items in
    let (k, low, high) = lower g c.before in
    let from = c.arc-here.ensures.from in
    omega (arith, ap (λ x. unwrap_or (level_at levels x) 0) from, ap (λ o. unwrap_or o 0) low, ap (λ o. unwrap_or o 0) high)

pub loop-link-preserved : goal.loop-link-preserved
loop-link-preserved g c =
    let bounds = c.args.graph.now.bounds in
    let levels = c.in_ok-levels.levels.items in
    let links = c.loop-link.links.items in
    let link = c.in-Some.link in
    let step = taken g c.before in
    let (k, low, high) = lower g c.before in
    let from = c.arc-here.ensures.from in
    let items = c.in_ok-push.ensures.items in
    let h = c.loop-link.invariant in
    let (chain, all) = chain_before_way c.args.end links step.first step.ends h.chain h.first in
    record {
      within = rw from (link_among bounds link c.requires.far.named step.first.step.tight.there).0;
      chain = rw (items, from) chain;
      first = rw items all;
      short = λ level at. omega (arith, ap length items, length_push links link, some_same _ level k (sym (ap (level_at levels) from) ∙ at) low, h.short _ high);
    }

pub returns : goal.returns
returns g c =
    let bounds = c.args.graph.now.bounds in
    let levels = c.in_ok-levels.levels.items in
    let h = c.loop-link.invariant in
    let none = MatchOption-at_none (HasNoStep bounds c.args.start c.loop-link.here) (IsFirstStepTo bounds c.args.start c.loop-link.here) c.in_default.is c.first_step.ensures in
    let ended : c.loop-link.here ≡ c.args.start = at_start c.in_ok-levels.ensures.levels none h.within in
    let at = (c.in_ok-levels.ensures.levels.level c.args.start 0).1 (level_of_start) in
    record {
      way = record {
        chain = rw ended at h.chain;
        first = h.first;
      };
      short = omega (arith, h.short 0 (ap (level_at levels) ended ∙ at));
    }
