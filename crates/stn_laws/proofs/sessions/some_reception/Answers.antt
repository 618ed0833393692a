use Rattle.std.proofs.Common.{length, take, arith}
use Rattle.stn_device.specs.Bytes.{most_bytes}
use Rattle.stn_laws.proofs.{frames.Cuts.{some_cut, bytes_before}, sessions.SomeReception.reception_of_cut}
use Rattle.stn_laws.proofs.sessions.some_reception.Goals as goal

pub returns : goal.returns
returns c = λ source first input small none.
    some_cut (length (take most_bytes input)) (take most_bytes input) (omega arith) (bytes_before most_bytes input small)
    (λ frames rest cut. let some = reception_of_cut source first input frames rest cut in none some.after some.answer some.state some.says some.is)
