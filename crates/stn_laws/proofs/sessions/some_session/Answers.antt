use Rattle.std.proofs.Common.{length, arith}
use Rattle.stn_laws.proofs.{frames.Cuts.some_cut, sessions.SomeSession.session_of_cut}
use Rattle.stn_laws.proofs.sessions.some_session.Goals as goal

pub returns : goal.returns
returns c = λ first bytes small none.
    some_cut (length bytes) bytes (omega arith) small
    (λ frames rest cut. let some = session_of_cut first bytes frames rest cut in none some.0 some.1 some.2)
