use Rattle.std.proofs.{Common.refl, lemmas.Bool.false≢true}
use Rattle.stn_replica.proofs.Tightening.{next_named, next_taken, next_conflicts, all_taken}
use Rattle.stn_replica.proofs.matrices.tighten_each.Goals as goal

pub tighten-requires : goal.tighten-requires
tighten-requires g c = next_named c.loop-record.invariant c.in-Some.ensures.steps c.requires.named

pub returns-then-not-tighten-clause-settled : goal.returns-then-not-tighten-clause-settled
returns-then-not-tighten-clause-settled g c = λ bounds exact.
    next_conflicts c.loop-record.invariant c.in-Some.ensures.steps bounds (λ s. false≢true ((c.if-not-tighten.ensures.possible _ (c.loop-record.invariant.exact bounds exact)).1 s))

pub loop-record-preserved : goal.loop-record-preserved
loop-record-preserved g c =
    next_taken c.loop-record.invariant c.in-Some.ensures.steps
    (λ bounds exact. c.if-not-tighten.ensures.exact bounds exact refl) c.if-not-tighten.ensures.events (c.if-not-tighten.ensures.counted refl)

pub returns-clause-settled : goal.returns-clause-settled
returns-clause-settled g c = all_taken c.loop-record.invariant c.in-None.ensures.steps.0
