-- How many steps the plan of a command's log has.
use Rattle.std.{proofs.Common.{rules, ◌≡◌, ℕ, Option, Some, None}, specs.Prelude.IfSome}
use Rattle.stn_lift.specs.PlanSource.{steps_of}
use Rattle.stn_line.specs.declared.words.{SiteLog.SiteLog, Line.Line}
use Rattle.stn_site.specs.Held.{Held}
use Rattle.stn_store.specs.{Steps.Entries, Store.Opens}
use Rattle.stn_reasons.specs.Reasons.{HasSteps, log_of}

pub known : (entries : Entries) (line : Line) (log : SiteLog) (steps : Option ℕ) → log_of line ≡ Some log
    → IfSome steps (λ count. (held : Held) × Opens entries log.name.now log.site held × (steps_of held.source ≡ count)) → HasSteps entries line steps
known entries line log None is found = tt
known entries line log (Some count) is found = search rules
