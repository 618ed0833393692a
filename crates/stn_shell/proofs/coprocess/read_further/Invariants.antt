use Rattle.std.{proofs.Common.{◌≡◌, ◌++◌, length, ℕ, List, map}, specs.{Prelude.IsUtf8, List.AllByRecursion}}
use Rattle.stn_text.specs.Lines.{words_of}
use Rattle.stn_shell.proofs.coprocess.read_further.Given as goal

abbrev pub invariant-words : goal.invariant-words
invariant-words l = record {
  done : (texts : List (List ℕ)) × AllByRecursion IsUtf8 texts × (words_of l.text ≡ texts ++ words_of l.rest)
      × (map (λ word. word.now) l.words.items ≡ map (λ word. word.now) l.fn.before.items ++ texts);
}

abbrev pub decreases-words : goal.decreases-words
decreases-words l = length l.rest
