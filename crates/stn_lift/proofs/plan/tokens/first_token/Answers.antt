use Rattle.std.proofs.Common.{◌∙◌, sym, ap}
use Rattle.stn_lift.{specs.Plan.Tokens.is_word_letter, proofs.plan.TokenFacts.tokens_of-letters}
use Rattle.stn_lift.proofs.plan.tokens.first_token.Goals as goal

pub returns-in-Letter : goal.returns-in-Letter
returns-in-Letter c =
    rw (c.split_at.ensures.front, c.split_at.ensures.back, c.word_len.ensures.letters)
    (sym c.loop-byte.invariant ∙ tokens_of-letters c.in-Some.ensures.cases.0 (ap is_word_letter (sym c.in-Letter.ensures)))
