use Rattle.std.proofs.{Common.{sym, ltb-true, arith}, lemmas.Grind.elements}
use Rattle.stn_records.proofs.Lists.{entry_at}
use Rattle.stn_records.proofs.records.Records.record_at.Goals as goal

pub returns-clause-proper : goal.returns-clause-proper
returns-clause-proper g c =
    c.added.ensures.proper c.in_ok-id.field-0.now.0 c.in_ok-id.field-0.now.1
    (entry_at c.args.self.now.additions c.added.result.now c.args.place c.in_ok-id.field-0.now c.added.ensures.value (ltb-true _ _ (sym c.in_ok-id.ensures.lookup.0)) c.in_ok-id.ensures.lookup.1)

pub returns-clause-value : goal.returns-clause-value
returns-clause-value g c = grind (arith, elements)

pub returns-in_err-id-clause-value : goal.returns-in_err-id-clause-value
returns-in_err-id-clause-value g c = grind (arith, elements)
