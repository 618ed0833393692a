use Rattle.std.proofs.Common.{option_map, refl}
use Rattle.stn_effects.{specs.Effects.{stopped, went}, proofs.Endings.makes_of}
use Rattle.stn_store.proofs.Lacks.{passed_on}
use Rattle.stn_line.specs.Explanations.Explained.{IsExplained}
use Rattle.stn_asked.specs.Words.{seen_update, seen_asked}
use Rattle.stn_logs.{specs.Commands.IsExplainRefusal, proofs.Refused.unread}
use Rattle.stn_logs.proofs.commands.answer_with.Goals as goal

pub returns-in-Make : goal.returns-in-Make
returns-in-Make g c = rw c.in-Make.is c.make_log.ensures

pub returns-in_err-asked-in-Change : goal.returns-in_err-asked-in-Change
returns-in_err-asked-in-Change g c = rw (passed_on _ _ c.from_residual.ensures.1, c.in-Change.is) (stopped _ (unread _ c.in_err-asked-in-Change.ensures) refl)

pub returns-in_ok-asked-in-Change : goal.returns-in_ok-asked-in-Change
returns-in_ok-asked-in-Change g c = rw c.in-Change.is (went (seen_update c.in_ok-asked-in-Change.asked) _ (refl, rw c.in_ok-asked-in-Change.ensures refl) c.update_log.ensures)

pub returns-in_err-asked-in-Ask : goal.returns-in_err-asked-in-Ask
returns-in_err-asked-in-Ask g c = rw (passed_on _ _ c.from_residual-in_err-asked-in-Ask.ensures.1, c.in-Ask.is) (stopped _ (unread _ c.in_err-asked-in-Ask.ensures) refl)

pub returns-in_ok-asked-in-Ask : goal.returns-in_ok-asked-in-Ask
returns-in_ok-asked-in-Ask g c =
    rw c.in-Ask.is (went (seen_asked c.in_ok-asked-in-Ask.asked) _ (refl, rw c.in_ok-asked-in-Ask.ensures refl) (rw c.query.ensures at c.say_of.ensures))

pub returns-in-Explain : goal.returns-in-Explain
returns-in-Explain g c =
    let word = option_map (λ one. one.now) c.in-Explain.code in
    rw c.in-Explain.is (makes_of g.S.Store.fails (λ text. text.items) (IsExplained word) (IsExplainRefusal word) c.explain.result _ c.explain.ensures)
