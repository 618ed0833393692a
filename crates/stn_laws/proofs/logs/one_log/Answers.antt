use Rattle.std.{proofs.Common.{None, length, take}, specs.Prelude.nat_lt}
use Rattle.stn_device.specs.Bytes.{most_bytes}
use Rattle.stn_laws.proofs.logs.OneLog.{one_meaning}
use Rattle.stn_laws.proofs.logs.one_log.Goals as goal

pub returns : goal.returns
returns c = λ input one other one_is other_is. one_meaning (nat_lt most_bytes (length input)) None (take most_bytes input) one other one_is.said other_is.said
