-- What is left has the tokens of the line.
use Rattle.std.proofs.Common.{◌≡◌, length}
use Rattle.stn_lift.specs.Plan.Tokens.{tokens_of}
use Rattle.stn_lift.proofs.plan.tokens.first_token.Given as goal

abbrev pub invariant-loop-byte : goal.invariant-loop-byte
invariant-loop-byte l = tokens_of l.rest ≡ tokens_of l.line

abbrev pub decreases-loop-byte : goal.decreases-loop-byte
decreases-loop-byte l = length l.rest
