use Rattle.std.{proofs.Common.{length, arith, take}, specs.Prelude.nat_lt}
use Rattle.stn_device.specs.Bytes.{most_bytes}
use Rattle.stn_laws.proofs.{frames.Cuts.{some_cut, bytes_before}, logs.SomeLog.meaning_of_cut}
use Rattle.stn_laws.proofs.logs.some_log.Goals as goal

pub returns : goal.returns
returns c = λ input small none.
    some_cut (length (take most_bytes input)) (take most_bytes input) (omega arith) (bytes_before most_bytes input small)
    (λ frames rest cut. let some = meaning_of_cut (nat_lt most_bytes (length input)) (take most_bytes input) frames rest cut in
    none some.0 (record { said = some.1 }))
