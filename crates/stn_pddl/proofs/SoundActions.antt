-- The actions of a domain are sound.
use Rattle.std.{proofs.{Common.{rules, ◌≡◌, ℕ, ◌≤◌, Bool, false, List, [], ◌∷◌, length, Option, Some, None, Result, Ok, Err, IfOk, ◌∙◌, ap, find, MatchOption, IfSome}, lemmas.{Result.MatchResult-at_ok}}, specs.{List.AllByRecursion, Borrow.Bor}}
use Rattle.stn_text.specs.Faults.{Returns}
use Rattle.stn_pddl.{specs.{declared.{tree.scan.{TreeFault.{TreeFault}}, fault.DomainFault.DomainFault, action.Action.Action}, Tree.{Trees.{Trees}, Scan.{most_text, tree_of}}, Faults.is_memory, Schemas.ActionSchema, Views.action_schema, Sound.IsSound, Actions.{named_action, is_taken}, Domains.{domain_of_bytes, domain_of, action_named}}, proofs.Forms.{IsMade, named_given, domain_given}}

-- the name of an action that was read is new
pub new-name : {A : Type 0} (result : Result (Action A) DomainFault) (line : ℕ) (name : List ℕ) (rest : Trees) (earlier : List ActionSchema) → Returns is_memory action_schema result (named_action line name rest)
    → is_taken name earlier ≡ false → IfOk result (λ action. is_taken (action_schema action).name earlier ≡ false)
new-name (Ok found) line name rest earlier gives new =
    let made : IsMade name (action_schema found) = MatchResult-at_ok _ _ _ gives (named_given line name rest) in
    ap (λ n. is_taken n earlier) made.named ∙ new
new-name (Err fault) line name rest earlier gives new = tt

-- A domain's text is not too long.
pub domain-short : (text : List ℕ) (actions : List ActionSchema) → domain_of text ≡ Ok actions → length text ≤ most_text
unfolding domain_of tree_of
domain-short text actions is = search (rules)

-- The actions of a text are sound.
pub domain-sound : (text : List ℕ) (actions : List ActionSchema) → domain_of text ≡ Ok actions → AllByRecursion IsSound actions
unfolding domain_of
domain-sound text actions is = by (tree_of text) is
  where
    by : (read : Result Trees TreeFault) → domain_of_bytes read ≡ Ok actions → AllByRecursion IsSound actions
    by (Ok row) e = MatchResult-at_ok _ _ _ e (domain_given row)
    by (Err fault) e = cc

-- the action that is found is sound
pub found-sound : (test : ActionSchema → Bool) (actions : List ActionSchema) (b : ActionSchema) → AllByRecursion IsSound actions → find test actions ≡ Some b → IsSound b
found-sound test [] b all is = cc
found-sound test (a ∷ actions) b all is = search (rules, (found-sound test actions b all.1))

pub named-sound : {A : Type 0} (found : Option (Bor (Action A))) (name : List ℕ) (actions : List ActionSchema) → AllByRecursion IsSound actions
    → MatchOption found (action_named name actions ≡ None) (λ action. action_named name actions ≡ Some (action_schema action.now))
    → IfSome found (λ action. IsSound (action_schema action.now))
unfolding action_named
named-sound found name actions all is = search (rules, found-sound)
