use Rattle.std.proofs.Common.{◌≡◌, ◌++◌, length, Ok}
use Rattle.stn_text.specs.Lines.{words_of}
use Rattle.stn_command.specs.Words.{and_then, times_read}
use Rattle.stn_exec.proofs.reading.read_times.Given as goal

abbrev pub invariant-loop-word : goal.invariant-loop-word
invariant-loop-word g l = times_read (words_of l.line) ≡ and_then (times_read (words_of l.rest)) (λ times. Ok (l.times.items ++ times))

abbrev pub decreases-loop-word : goal.decreases-loop-word
decreases-loop-word g l = length l.rest
