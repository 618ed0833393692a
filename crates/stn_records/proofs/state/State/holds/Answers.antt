use Rattle.std.proofs.{Common.{sym, ◌∙◌}, lemmas.Bool.false≢true}
use Rattle.stn_records.proofs.{Holding.{last_told, missed}, state.State.holds.Goals.{then-holds, else-holds}}
use Rattle.stn_records.proofs.state.State.holds.Goals as goal

pub returns-then-holds-2 : goal.returns-then-holds-2
returns-then-holds-2 g c = elim c.if-holds.branch [
  | then-holds w ↦ last_told c.args.self.now c.args.other.now c.self.view_is c.other.view_is c.holds-then-holds-2.result (c.holds.ensures.0 w.if-holds.true) (w.holds-then-holds.ensures.0 (sym w.value-is ∙ c.if-holds-2.true)) c.holds-then-holds-2.ensures
  | else-holds w ↦ absurd (false≢true (sym w.if-holds.false ∙ sym w.value-is ∙ c.if-holds-2.true))
]

pub returns-else-holds-2 : goal.returns-else-holds-2
returns-else-holds-2 g c = elim c.if-holds.branch [
  | then-holds w ↦ missed c.args.self.now c.args.other.now c.self.view_is c.other.view_is c.if-holds.value c.if-holds-2.false (λ both. false≢true (sym (sym w.value-is ∙ c.if-holds-2.false) ∙ w.holds-then-holds.ensures.1 both.1))
  | else-holds w ↦ missed c.args.self.now c.args.other.now c.self.view_is c.other.view_is c.if-holds.value c.if-holds-2.false (λ both. false≢true (sym w.if-holds.false ∙ c.holds.ensures.1 both.0))
]
