use Rattle.std.{proofs.{Common.{◌≡◌, inl, inr, refl, subst, arith}, lemmas.{Grind.common_steps, Result.err_from_is_err_and}}, specs.Io.KnownBytes.Appends}
use Rattle.stn_device.specs.Bytes.{AppendsPart}
use Rattle.stn_session.specs.Exchange.{request_bytes}
use Rattle.stn_session.proofs.exchange.send_requests.Goals as goal

pub returns-in_err-append_requests : goal.returns-in_err-append_requests
returns-in_err-append_requests g c =
    let p = err_from_is_err_and c.from_residual.result c.from_residual.ensures.1 in
    rw (p.1, p.2) (record { asked = inl (refl, refl); unwritten = λ _. refl })

pub returns-in_err-write_whole-clause-asked : goal.returns-in_err-write_whole-clause-asked
returns-in_err-write_whole-clause-asked g c =
    let p = err_from_is_err_and c.from_residual-in_err-write_whole.result c.from_residual-in_err-write_whole.ensures.1 in
    let held = g.C.SiteCopy.held c.args.copy.now in
    let requests : c.deref.result.now ≡ request_bytes held.source held.state = grind (arith, common_steps) in
    rw (p.1, p.2) (inr (refl, (subst (AppendsPart _ _) requests c.in_err-write_whole.ensures.part, c.in_err-write_whole.ensures.failed)))

pub returns-clause-asked : goal.returns-clause-asked
returns-clause-asked g c =
    let held = g.C.SiteCopy.held c.args.copy.now in
    let requests : c.deref.result.now ≡ request_bytes held.source held.state = grind (arith, common_steps) in
    (subst (Appends _ _) requests c.in_ok-write_whole.ensures.written, c.in_ok-write_whole.ensures.kept)
