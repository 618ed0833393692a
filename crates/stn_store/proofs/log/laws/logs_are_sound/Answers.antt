use Rattle.std.{proofs.Common.{length, take}, specs.Prelude.nat_lt}
use Rattle.stn_device.specs.Bytes.{most_bytes}
use Rattle.stn_store.proofs.log.SoundLog.{sound_meaning}
use Rattle.stn_store.proofs.log.laws.logs_are_sound.Goals as goal

pub returns : goal.returns
returns c = λ input log is. sound_meaning (nat_lt most_bytes (length input)) (take most_bytes input) log is.said
