use Rattle.std.{proofs.Common.{◌≡◌, ◌⊎◌, ℕ, List, Option, Result, sym, subst, inl, inr}, specs.Borrow.Bor}
use Rattle.stn_effects.specs.Printing.{device_of}
use Rattle.stn_line.specs.declared.words.{SiteLog.SiteLog, NewLog.NewLog, LogChange.LogChange, LogQuestion.LogQuestion, NameWords.NameWords, Line.{Line, TheVariants.{Make, Change, Ask, Explain}}}
use Rattle.stn_refusal.specs.declared.failure.{Failure.Failure, Fault.Fault}
use Rattle.stn_shell.{specs.{Carried.{Answers, Does, Succeeds, ServesLog, SendsLog}, Outside.Outside}, proofs.Turns.succeeded}
use Rattle.stn_shell.proofs.execution.do_line.Goals as goal

-- a command on a log, or an explanation, is answered
answered : (Fails : Fault → Type 0) (line : Line) (old new : Outside) (ended : Result ℕ Failure)
    → ((log : SiteLog) × (made : NewLog) × (line ≡ Make log made)) ⊎ ((log : SiteLog) × (made : LogChange) × (line ≡ Change log made))
    ⊎ ((log : SiteLog) × (asked : LogQuestion) × (names : NameWords) × (line ≡ Ask log asked names)) ⊎ ((code : Option (Bor (List ℕ))) × (line ≡ Explain code))
    → Succeeds (Answers Fails line) old new ended → Does Fails line old new ended
answered Fails line old new ended (inl is) = subst (λ one. Succeeds (Answers Fails one) old new ended → Does Fails one old new ended) (sym is.2) (λ does. does)
answered Fails line old new ended (inr (inl is)) = subst (λ one. Succeeds (Answers Fails one) old new ended → Does Fails one old new ended) (sym is.2) (λ does. does)
answered Fails line old new ended (inr (inr (inl is))) = subst (λ one. Succeeds (Answers Fails one) old new ended → Does Fails one old new ended) (sym is.3) (λ does. does)
answered Fails line old new ended (inr (inr (inr is))) = subst (λ one. Succeeds (Answers Fails one) old new ended → Does Fails one old new ended) (sym is.1) (λ does. does)

pub returns-in-Run : goal.returns-in-Run
returns-in-Run g c = record { status = c.run_input.ensures.status; done = rw c.in-Run.is (c.run_input.ensures.ran (g.S.Store.entries c.args.store.now) (device_of g.E.Write.contents c.args.err.now)) }

pub returns-in-Shell : goal.returns-in-Shell
returns-in-Shell g c = record { status = c.run_shell.ensures.status; done = rw c.in-Shell.is c.run_shell.ensures.ran }

pub returns-in-Serve-clause-done : goal.returns-in-Serve-clause-done
returns-in-Serve-clause-done g c = rw c.in-Serve.is (succeeded (ServesLog g.S.Store.fails c.in-Serve.log c.in-Serve.count) _ _ c.serve_at.result c.status_of.result c.status_of.ensures
    (c.serve_at.ensures (device_of g.R.Read.remaining c.args.reader.now) (device_of g.E.Write.contents c.args.err.now)))

pub returns-in-Send-clause-done : goal.returns-in-Send-clause-done
returns-in-Send-clause-done g c = rw c.in-Send.is (succeeded (SendsLog g.S.Store.fails c.in-Send.log) _ _ c.send_to.result c.status_of-in-Send.result c.status_of-in-Send.ensures
    (c.send_to.ensures (device_of g.R.Read.remaining c.args.reader.now) (device_of g.E.Write.contents c.args.err.now)))

pub returns-in-Make-clause-done : goal.returns-in-Make-clause-done
returns-in-Make-clause-done g c =
    let line = c.args.line.now in
    answered g.S.Store.fails line _ _ c.status_of-in-Make.result c.in-Make.is (succeeded (Answers g.S.Store.fails line) _ _ c.tell_answer.result c.status_of-in-Make.result c.status_of-in-Make.ensures
    (c.tell_answer.ensures (device_of g.R.Read.remaining c.args.reader.now)))
