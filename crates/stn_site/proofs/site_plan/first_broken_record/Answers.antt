use Rattle.std.{proofs.{Common.{◌≡◌, Bool, List, ◌∷◌, Option, Some, cond, not, find, option_map, ap, subst, ◌∙◌, All}, lemmas.List.Elements.{All-filter, All-head, All-tail, All-same}}, specs.FinMap.entries}
use Rattle.stn_net.specs.Schedule.{NamesTimes, times_of}
use Rattle.stn_records.specs.{Id.SiteCounter, declared.record.Record.Record, Content.{is_replaced, live_of}}
use Rattle.stn_site.specs.Names.{is_met}
use Rattle.stn_site.proofs.site_plan.first_broken_record.Goals as goal

-- the first of the records ahead is the one that is asked for, where it is broken, and is passed where it is not
next_asked : (p : SiteCounter × Record → Bool) (ahead rest : List (SiteCounter × Record)) (e : SiteCounter × Record) (told : Bool) (first : Option (SiteCounter × Record)) → ahead ≡ e ∷ rest → told ≡ p e → find p ahead ≡ first
    → cond told (Some e) (find p rest) ≡ first
next_asked p ahead rest e told first steps is here = cc

pub loop-id-init : goal.loop-id-init
loop-id-init g c =
    let all = c.into_iter-id-iterator.ensures.into_iter_gives ∙ c.live_records-id-items.ensures.live in
    let P : SiteCounter × Record → Type 0 = λ entry. NamesTimes c.args.times.now entry.1.bound in
    record {
      first = ap (find (λ entry. not (is_met (times_of c.args.times.now) entry.1.bound))) all;
      timed = All-same P c.into_iter-id-iterator.result (live_of c.args.records.now) all
          (All-filter (λ entry. not (is_replaced c.args.records.now entry.0)) P (entries c.args.records.now.additions) c.requires.named);
    }

pub is_broken-requires-clause-named : goal.is_broken-requires-clause-named
is_broken-requires-clause-named g c =
    All-head (λ entry. NamesTimes c.args.times.now entry.1.bound) (c.in-Some.id, c.in-Some.record) c.next.new.self
    (subst (All (λ entry. NamesTimes c.args.times.now entry.1.bound)) c.in-Some.ensures.steps c.loop-id.invariant.timed)

pub returns-then-is_broken : goal.returns-then-is_broken
returns-then-is_broken g c =
    ap (option_map (λ entry. entry.0)) (rw c.if-is_broken.true at (next_asked (λ entry. not (is_met (times_of c.args.times.now) entry.1.bound)) _ _ _ _ _ c.in-Some.ensures.steps c.is_broken.ensures c.loop-id.invariant.first))

pub loop-id-preserved : goal.loop-id-preserved
loop-id-preserved g c = record {
  first = rw c.if-is_broken.false at (next_asked (λ entry. not (is_met (times_of c.args.times.now) entry.1.bound)) _ _ _ _ _ c.in-Some.ensures.steps c.is_broken.ensures c.loop-id.invariant.first);
  timed = All-tail (λ entry. NamesTimes c.args.times.now entry.1.bound) (c.in-Some.id, c.in-Some.record) c.next.new.self
      (subst (All (λ entry. NamesTimes c.args.times.now entry.1.bound)) c.in-Some.ensures.steps c.loop-id.invariant.timed);
}
