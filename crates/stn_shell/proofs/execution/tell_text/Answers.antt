use Rattle.std.proofs.Common.{refl, inl, inr, arith}
use Rattle.stn_shell.proofs.execution.tell_text.Goals as goal

pub returns-then-use_stderr : goal.returns-then-use_stderr
returns-then-use_stderr g c = record {
  status = omega arith;
  said = inl (c.use_stderr.ensures.0 c.if-use_stderr.true, refl, refl, c.tell.ensures);
}

pub returns-in-Ok : goal.returns-in-Ok
returns-in-Ok g c = record {
  status = omega arith;
  said = inr (inl (
    (λ mistake.
        let yes = c.use_stderr.ensures.1 mistake in
        let no = c.if-use_stderr.false in
        cc),
    refl,
    (c.in-Ok.ensures.written, c.in-Ok.ensures.kept),
    refl,
  ));
}
