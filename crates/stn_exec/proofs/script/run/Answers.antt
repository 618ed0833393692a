use Rattle.std.proofs.Common.{Err, ap, refl, inl, inr, subst}
use Rattle.stn_effects.specs.{Effects.{failing, stopped, went}, Printing.device_of}
use Rattle.stn_exec.specs.{Failures.run_failure, Runs.{streams, PrintsReplies}, Script.script_outcome}
use Rattle.stn_exec.proofs.script.run.Goals as goal

pub returns-in-Ok : goal.returns-in-Ok
returns-in-Ok g c =
    let out = device_of g.W.Write.contents in
    let read = c.in-Ok.ensures in
    let run = subst (λ text. PrintsReplies (script_outcome text) (out c.args.writer.now) (out c.run_script.new.writer) (failing run_failure c.run_script.result)) c.deref.ensures.value c.run_script.ensures.run in
    record {
      runs = went c.in-Ok.script.items (streams (device_of g.R.Read.remaining c.read_whole.new.reader) (out c.args.writer.now))
          ((read.bytes, read.end, read.within, read.kept (λ e. cc)), refl) (run, refl);
    }

pub returns-in-Err-Read : goal.returns-in-Err-Read
returns-in-Err-Read g c =
    record { runs = stopped _ ((c.read_whole.ensures.used, inl (refl, c.in-Err-Read.ensures.read (ap Err c.in-Err-Read.field-0-is))), refl) refl }

pub returns-in-Err-Bound : goal.returns-in-Err-Bound
returns-in-Err-Bound g c =
    let is = c.in-Err-Bound.field-0-is in
    let read = c.in-Err-Bound.ensures in
    record { runs = stopped _ ((c.read_whole.ensures.used, inr (inl (refl, read.bound (ap Err is), read.kept (λ other. cc)))), refl) refl }

pub returns-in-Err-Memory : goal.returns-in-Err-Memory
returns-in-Err-Memory g c =
    let is = c.in-Err-Memory.field-0-is in
    record { runs = stopped _ ((c.read_whole.ensures.used, inr (inr (refl, c.in-Err-Memory.ensures.kept (λ other. cc)))), refl) refl }
