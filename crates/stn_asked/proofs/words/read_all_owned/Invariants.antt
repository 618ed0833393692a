use Rattle.std.proofs.Common.{◌≡◌, [], drop}
use Rattle.stn_asked.specs.Words.{owned_after}
use Rattle.stn_asked.proofs.words.read_all_owned.Given as goal

-- the words so far gave this, and those that are left are still to be read
abbrev pub invariant-words : goal.invariant-words
invariant-words g l = owned_after [] l.words ≡ owned_after l.owned.items (drop l.word-index l.words)
