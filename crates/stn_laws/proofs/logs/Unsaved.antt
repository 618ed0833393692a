-- What a step of a command leaves; a command that gives no answer saves nothing.
use Rattle.std.proofs.Common.{rules, ℕ, Bool, true, false, List, Option, Some, None}
use Rattle.stn_effects.proofs.Endings.{ChangesNothing, KeepsIfStopped, StopsForLack, gives_lacks, then_same}
use Rattle.stn_lift.specs.PlanSource.{PlanSource}
use Rattle.stn_records.specs.Content.{Content}
use Rattle.stn_line.specs.declared.words.{NewLog.TheVariants.{Bare, Init, Loosen}, Line.{Line, TheVariants.{Make, Change, Ask, Explain}}}
use Rattle.stn_site.specs.{Held.Held}
use Rattle.stn_asked.specs.Words.{Update, change, guard, merge}
use Rattle.stn_logs.specs.Commands.{Updated, updated, unchanged, SavesUpdated, SavesMade, FindsSource, Updates, FindsNames, DoesLine}
use Rattle.stn_refusal.specs.declared.failure.{Fault.Fault}

module _ (Fails : Fault → Type 0) where
  made_keeps : (name : List ℕ) (source : PlanSource) (state : Content) → KeepsIfStopped (SavesMade Fails name source state)
  made_keeps name source state = search rules

  pub source_same : (domain plan : List ℕ) → ChangesNothing (FindsSource Fails domain plan)
  source_same domain plan = search (rules)

  pub update_same : (asked : Update) (held : Held) → ChangesNothing (Updates Fails asked held)
  update_same (change asked) held = search rules
  update_same (merge other) held = search (rules)
  update_same (guard owned) held = search rules

  -- the saving of a log, and then its answer
  saved_keeps : (name : List ℕ) (made : Updated) → KeepsIfStopped (SavesUpdated Fails name made)
  saved_keeps name (updated held text) = search rules
  saved_keeps name (unchanged text) = search rules

  pub saved_lacks : (name : List ℕ) (made : Updated) → StopsForLack Fails (SavesUpdated Fails name made)
  saved_lacks name (updated held text) = search rules
  saved_lacks name (unchanged text) = gives_lacks Fails text

  -- the text that names steps
  pub names_same : (plan : Option (List ℕ)) (own : Bool) (source : PlanSource) → ChangesNothing (FindsNames Fails plan own source)
  names_same None false source = search rules
  names_same None true source = search rules
  names_same (Some plan) false source = search (rules, then_same)
  names_same (Some plan) true source = search rules

  pub line_keeps : (line : Line) → KeepsIfStopped (DoesLine Fails line)
  line_keeps (Make log (Bare steps)) = search (rules, made_keeps)
  line_keeps (Make log (Init domain plan)) = search rules
  line_keeps (Make log (Loosen domain plan early late robust)) = search rules
  line_keeps (Change log words) = search (rules, update_same, saved_keeps)
  line_keeps (Ask log words names) = search (rules, names_same)
  line_keeps (Explain word) = search rules
  line_keeps line = search rules
