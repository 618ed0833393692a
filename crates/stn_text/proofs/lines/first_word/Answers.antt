use Rattle.std.proofs.{Common.{rules, arith, sym, ◌∙◌}, lemmas.Grind.common_steps}
use Rattle.stn_text.proofs.Splits.{words_of-none, words_of-found, words_of-whole}
use Rattle.stn_text.proofs.lines.first_word.Goals as goal

pub returns-then-is_empty-clause-words : goal.returns-then-is_empty-clause-words
returns-then-is_empty-clause-words c = cc (words_of-none c.without_gaps-rest.result.now (grind (arith, common_steps)))

pub returns-in-Some-clause-words : goal.returns-in-Some-clause-words
returns-in-Some-clause-words c = search (rules, words_of-found, common_steps)

pub returns-in-None-clause-words : goal.returns-in-None-clause-words
returns-in-None-clause-words c = sym c.without_gaps-rest.ensures.words ∙ words_of-whole c.without_gaps-rest.result.now (grind (arith, common_steps)) (sym c.in-None.ensures)
