-- What is said of the events that are left depends on the live records alone.
use Rattle.std.proofs.Common.{rules, ◌≡◌, inl, inr, ℕ, ℤ, List}
use Rattle.stn_lift.specs.PlanSource.{PlanSource}
use Rattle.stn_records.specs.Content.{Content, live_of}
use Rattle.stn_site.specs.{Held.Held}
use Rattle.stn_questions.specs.declared.words.Outlook.{Outlook}
use Rattle.stn_laws.proofs.queries.OneSaid.{one_foreseen}
use Rattle.stn_command.specs.{Dispatch.{Choice, done_or_not_chosen}, Query.IsForeseen}
use Rattle.stn_questions.specs.declared.words.Outlook.TheVariants as outlook

foreseen_along : (outlook : Outlook) (choice : Choice) (now : ℤ) (source : PlanSource) (s t : Content) (text : List ℕ) → live_of s ≡ live_of t
    → IsForeseen outlook source s (done_or_not_chosen choice source s) now text → IsForeseen outlook source t (done_or_not_chosen choice source t) now text
foreseen_along outlook.Next choice now source s t text live p = search rules
foreseen_along outlook.Ready choice now source s t text live p = search rules
foreseen_along outlook.Rehearse choice now source s t text live (inl p) =
    let left : done_or_not_chosen choice source s ≡ done_or_not_chosen choice source t = search rules in
    search rules
foreseen_along outlook.Rehearse choice now source s t text live (inr p) = search rules

-- so it is the same
pub foreseen_same : (outlook : Outlook) (choice : Choice) (now : ℤ) (one other : Held) (text last : List ℕ) → one.source ≡ other.source → live_of one.state ≡ live_of other.state
    → IsForeseen outlook one.source one.state (done_or_not_chosen choice one.source one.state) now text
    → IsForeseen outlook other.source other.state (done_or_not_chosen choice other.source other.state) now last → text ≡ last
foreseen_same outlook choice now one other text last plan live p q = search (rules, one_foreseen, foreseen_along)
