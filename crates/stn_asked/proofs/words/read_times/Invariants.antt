use Rattle.std.proofs.Common.{◌≡◌, ◌++◌, drop, Ok}
use Rattle.stn_command.specs.Words.{and_then, each_read}
use Rattle.stn_asked.specs.Words.{moment_read}
use Rattle.stn_asked.proofs.words.read_times.Given as goal

abbrev pub invariant-words : goal.invariant-words
invariant-words g l = each_read moment_read l.words ≡ and_then (each_read moment_read (drop l.word-index l.words)) (λ rest. Ok (l.times.items ++ rest))
