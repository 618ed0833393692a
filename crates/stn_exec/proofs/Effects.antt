-- What calls of a world answer.
use Rattle.std.proofs.Common.{rules, ◌≡◌, ℕ, List, Result, Ok, Err}
use Rattle.stn_refusal.specs.{declared.failure.Failure.Failure, Refusals.refused}
use Rattle.stn_records.specs.{Id.SiteCounter}
use Rattle.stn_site.specs.{Change.change_id, declared.change.Change.Change}
use Rattle.stn_world.{specs.{World.{World, HasSite, next_id_at}, Steps.{Step, changed, IsStep}}, proofs.Accepted.site_decides}
use Rattle.stn_command.{specs.{declared.changes.Made.Made, Change.made_by}}
use Rattle.stn_exec.specs.{declared.answer.Answer.Answer, Command.{Action, sites_command}, Saying.{IsEffect, IsDone, call_answer}, Effect.{CommandEffect, said, declined, called, changing, action_effect, command_effect}}
use Rattle.stn_exec.specs.declared.answer.Answer.TheVariants as answer

-- what a step answers that makes nothing
pub call_effect : (old new : World) (step : Step) (made : Answer) (call : Result (Unit {0}) Failure) (outcome : Result Answer Failure) (effect : CommandEffect)
    → IsStep old step call new → outcome ≡ call_answer call made → called old step made ≡ effect → IsEffect outcome new effect
call_effect old new step made call outcome effect is same seen = search rules

-- ---- changes
-- words that can't be read
pub unread : (world : World) (site : ℕ) (asked : Result Change Failure) (cause failure : Failure) → asked ≡ Err cause → failure ≡ cause
    → IsEffect (Err failure) world (changing world site asked)
unread world site asked cause failure is same = search rules

-- a change that was refused, and one that was made
pub refused_change : (T : Type 0) (old new : World) (site : ℕ) (asked : Result Change Failure) (one : Change) (failure : Failure)
    → asked ≡ Ok one → IsStep {T = T} old (changed site one) (Err failure) new → IsEffect (Err failure) new (changing old site asked)
refused_change T old new site asked one failure is step = search rules

pub made_change : (old new : World) (site : ℕ) (asked : Result Change Failure) (one : Change) (id : SiteCounter) (made : Made) → asked ≡ Ok one
    → id ≡ change_id one (next_id_at old site) → made ≡ made_by one id → IsStep {T = SiteCounter} old (changed site one) (Ok id) new
    → record { world = new; reply = said (answer.Changed made) } ≡ changing old site asked
made_change old new site asked one id made is given by step = search rules

-- ---- a site that is there
pub there_effect : (world : World) (site : ℕ) (action : Action) → HasSite world site → action_effect world site action ≡ command_effect world (sites_command site action)
there_effect world site action there = cc ((site_decides world site).1 there)

-- ---- what was appended
-- a refusal
pub refused_done : (world : World) (old : List ℕ) (effect : CommandEffect) (cause : Failure) → record { world = world; reply = declined cause } ≡ effect
    → IsDone world old old effect (Err cause)
refused_done world old effect cause is = search rules
