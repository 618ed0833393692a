-- A query has one cause that refuses it, or none.
use Rattle.std.proofs.Common.{rules, ◌≡◌, Option, sym, ◌∙◌}
use Rattle.stn_refusal.specs.{declared.failure.Failure.Failure}
use Rattle.stn_site.specs.{Held.Held}
use Rattle.stn_command.specs.Query.{Query, report, check, foresee, ask, repairs, draw, IsQueryRefusal}

pub one_refusal : (query : Query) (held : Held) (cause other : Option Failure) → IsQueryRefusal query held cause → IsQueryRefusal query held other → cause ≡ other
one_refusal report held cause other p q = p ∙ sym q
one_refusal (check times) held cause other p q = search rules
one_refusal (foresee outlook now choice) held cause other p q = search rules
one_refusal (ask question) held cause other p q = search rules
one_refusal repairs held cause other p q = p ∙ sym q
one_refusal (draw look) held cause other p q = p ∙ sym q
