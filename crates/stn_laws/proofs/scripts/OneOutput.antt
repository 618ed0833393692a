-- Replies have one output, and one number of refusals.
use Rattle.std.proofs.Common.{rules, inl, inr, List, [], ◌∷◌, sym, ◌∙◌}
use Rattle.stn_site.specs.Held.{Held, holding_state}
use Rattle.stn_command.specs.Query.{Query, IsSaid}
use Rattle.stn_exec.{specs.{Effect.{CommandReply, said, declined, told}, Output.{IsAnswerText, IsReplyText, IsOutput, CountsRefusals}}, proofs.Outputs.{not_both}}
use Rattle.stn_laws.proofs.One.{IsOne}

-- what another law says of answers to queries
abbrev pub OneSaid : Type 0
OneSaid = (query : Query) (held : Held) → IsOne (IsSaid query held)

same_answer : OneSaid → (reply : CommandReply) → IsOne (IsAnswerText reply)
same_answer one (said answer) text other p q = p ∙ sym q
same_answer one (declined given) text other p q = absurd p
same_answer one (told source state query) text other p q = one query (holding_state source state) text other p.1 q.1

-- a reply has one text
one_text : OneSaid → (reply : CommandReply) → IsOne (IsReplyText reply)
one_text one reply text other (inl p) (inl q) = same_answer one reply text other p q
one_text one reply text other (inl p) (inr q) = absurd (not_both reply text _ p q.1)
one_text one reply text other (inr p) (inl q) = absurd (not_both reply other _ q p.1)
one_text one reply text other (inr p) (inr q) = search (rules)

pub one_output : OneSaid → (replies : List CommandReply) → IsOne (IsOutput replies)
one_output one [] text other p q = p ∙ sym q
one_output one (reply ∷ replies) text other p q = search (rules, one_text, (one_output one replies p.1 q.1 p.3 q.3))

pub one_count : (replies : List CommandReply) → IsOne (CountsRefusals replies)
one_count [] count other p q = p ∙ sym q
one_count (reply ∷ replies) count other p q = search (rules, (one_count replies p.1 q.1 p.3 q.3))
