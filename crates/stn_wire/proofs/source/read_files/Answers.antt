use Rattle.std.proofs.{Common.{rules, length, sym, ap, ◌∙◌}, lemmas.Bool.{false≢true, eq-eqb}}
use Rattle.stn_wire.proofs.Sources.{no_domain, no_plan, plan_and_more}
use Rattle.stn_wire.proofs.source.read_files.Goals as goal

pub returns-in_default : goal.returns-in_default
returns-in_default g c = search (rules, no_domain)

pub returns-in_default-read_measured : goal.returns-in_default-read_measured
returns-in_default-read_measured g c = search (rules, no_plan)

pub returns-then-not-is_empty : goal.returns-then-not-is_empty
returns-then-not-is_empty g c =
    plan_and_more c.args.texts.now c.in-Some.domain.now c.in-Some.rest.now c.in-Some.ensures c.in-Some-read_measured.plan.now c.in-Some-read_measured.rest.now c.in-Some-read_measured.ensures
    (λ none. false≢true (sym c.if-not-is_empty.true ∙ c.is_empty.ensures ∙ eq-eqb (length c.in-Some-read_measured.rest.now) 0 (ap length none)))
