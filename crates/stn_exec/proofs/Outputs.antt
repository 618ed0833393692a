-- A reply is no answer and a refusal, and at most one refusal.
use Rattle.std.{proofs.Common.{rules, ◌≡◌, ℕ, ◌+◌, ◌≤◌, Bool, cond, List, [], ◌∷◌, ◌++◌, refl, subst, arith}, specs.Bool.Decides}
use Rattle.stn_refusal.specs.declared.failure.Failure.{Failure}
use Rattle.stn_exec.specs.{Effect.CommandReply, Output.{IsAnswerText, Declines, IsRefusal, CountsRefusals}}

-- a reply that is an answer is no refusal
pub not_both : (reply : CommandReply) (text : List ℕ) (cause : Failure) → IsAnswerText reply text → ¬ Declines reply cause
not_both reply text cause is other = search rules

abbrev pub counted : Bool → ℕ → ℕ
counted refused others = cond refused 1 0 + others

-- no replies, one, and some and then others
pub count_none : CountsRefusals [] 0
count_none = refl

pub count_one : (reply : CommandReply) (refused : Bool) (count : ℕ) → count ≡ cond refused 1 0 → Decides refused (IsRefusal reply) → CountsRefusals (reply ∷ []) count
count_one reply refused count is decides = search rules

pub counts_join : (first later : List CommandReply) (a b : ℕ) → CountsRefusals first a → CountsRefusals later b → CountsRefusals (first ++ later) (a + b)
counts_join [] later a b p q = subst (CountsRefusals later) (same p) q
  where
    same : a ≡ 0 → b ≡ a + b
    same e = omega (arith, e)
counts_join (reply ∷ first) later a b p q = (p.0, p.1 + b, p.2, counts_join first later p.1 b p.3 q, sums (cond p.0 1 0) p.4)
  where
    sums : (n : ℕ) → a ≡ n + p.1 → a + b ≡ n + (p.1 + b)
    sums n e = omega (arith, e)

-- one reply is at most one refusal
pub one_refusal : (reply : CommandReply) (count : ℕ) → CountsRefusals (reply ∷ []) count → count ≤ 1
one_refusal reply count p = search rules
