use Rattle.std.proofs.{Common.{inl, inr}, lemmas.Result.IfOk-weaker}
use Rattle.stn_line.proofs.explanations.Entries.{all_entries, names_nothing}
use Rattle.stn_line.proofs.explanations.printing.meaning_of.Goals as goal

pub entry_of-requires : goal.entry_of-requires
entry_of-requires g c = all_entries c.table-entries.result.now c.table-entries.ensures

pub returns-in-Some : goal.returns-in-Some
returns-in-Some g c = IfOk-weaker c.line_of.result _ _ (λ text is. inl (_, c.in-Some.ensures.1, is)) c.line_of.ensures

pub returns-in-None : goal.returns-in-None
returns-in-None g c = inr (names_nothing c.args.word.now c.table-entries.result.now c.table-entries.ensures c.in-None.ensures, c.new.ensures.items)
