use Rattle.std.{proofs.Common.{◌≡◌, ◌++◌, codes, map, take}, specs.List.flat_map}
use Rattle.stn_lift.specs.Plan.Views.{word_of}
use Rattle.stn_questions.proofs.steps.append_words.Given as goal

abbrev pub invariant-loop-argument : goal.invariant-loop-argument
invariant-loop-argument g l =
    l.out.items ≡ l.initial.out.items ++ flat_map (λ argument. codes " " ++ argument) (map word_of (take l.argument-index l.arguments))
