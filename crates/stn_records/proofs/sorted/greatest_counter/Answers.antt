use Rattle.std.proofs.Common.{rules, cond, eqb, sym, ap, ◌∙◌, ltb-true}
use Rattle.stn_records.proofs.Counters.{counter_of_last, counter_of_none}
use Rattle.stn_records.proofs.sorted.greatest_counter.Goals as goal

pub returns-in_default : goal.returns-in_default
returns-in_default g c = search (rules, counter_of_none)

pub returns-then-eq : goal.returns-then-eq
returns-then-eq g c =
    c.counter.ensures.value ∙ ap (λ b. cond b c.in-Some.last.now.0.counter 0) (sym c.if-eq.true ∙ c.eq.ensures ∙ ap (λ s. eqb s c.args.site) c.site.ensures.value)
    ∙ counter_of_last c.args.site c.args.entries.now c.requires c.end_of.result c.end_of.ensures c.in-Some.last.now (ltb-true _ _ (sym c.in-Some.ensures.item.0)) c.in-Some.ensures.item.1

pub returns-else-eq : goal.returns-else-eq
returns-else-eq g c =
    ap (λ b. cond b c.in-Some.last.now.0.counter 0) (sym c.if-eq.false ∙ c.eq.ensures ∙ ap (λ s. eqb s c.args.site) c.site.ensures.value)
    ∙ counter_of_last c.args.site c.args.entries.now c.requires c.end_of.result c.end_of.ensures c.in-Some.last.now (ltb-true _ _ (sym c.in-Some.ensures.item.0)) c.in-Some.ensures.item.1
