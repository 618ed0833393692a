use Rattle.std.{proofs.Common.{◌≡◌, ℕ, ◌<◌, true, get_or}, specs.Char.is_ascii_digit}
use Rattle.stn_time.proofs.reading.digits_len.Given as goal

abbrev pub invariant-loop-i : goal.invariant-loop-i
invariant-loop-i l = (k : ℕ) → k < l.i → is_ascii_digit (get_or l.bytes k 0) ≡ true
