use Rattle.std.proofs.Common.{refl, inl, inr, arith}
use Rattle.stn_effects.specs.Printing.{device_of}
use Rattle.stn_shell.{specs.Outside.outside, proofs.Turns.tells_some}
use Rattle.stn_shell.proofs.execution.end.Goals as goal

pub returns-in-Ok : goal.returns-in-Ok
returns-in-Ok g c = record { status = c.in-Ok.ensures.status; ended = inl c.in-Ok.ensures.done }

pub returns-in-Err : goal.returns-in-Err
returns-in-Err g c = record {
  status = omega arith;
  ended = inr (
    c.in-Err.failure,
    outside (g.S.Store.entries c.do_line.new.store) (device_of g.R.Read.remaining c.do_line.new.reader) (device_of g.W.Write.contents c.do_line.new.out) (device_of g.E.Write.contents c.do_line.new.err),
    c.in-Err.ensures.done,
    record {
      between = device_of g.E.Write.contents c.tell_failure.new.err;
      told = c.tell_failure.ensures;
      reason = tells_some _ _ _ _ c.reason_of.ensures c.tell_made.ensures;
      entries = refl;
      unread = refl;
    },
    refl,
  );
}
