use Rattle.std.{proofs.Common.{◌≡◌, min, take}, specs.Str.Parse.digits_value}
use Rattle.stn_time.specs.declared.reading.TheConstants.{BEYOND}
use Rattle.stn_time.proofs.reading.seconds.Given as goal

abbrev pub invariant-loop-digit : goal.invariant-loop-digit
invariant-loop-digit l = l.seconds ≡ min BEYOND (digits_value 10 (take l.digit-index l.digits))
