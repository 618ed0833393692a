-- What commands do at the sites of a world.
use Rattle.std.specs.{Prelude.{ℕ, ◌+◌, Bool, true, if◌then◌else◌, length, Option, Some, None, is_some, option_map, Result, Ok, Err}, Option.option_map_or, Result.result_ok}
use Rattle.stn_refusal.specs.{declared.{code.Code.TheVariants.NoSite, failure.Failure.Failure}, Refusals.refused}
use Rattle.stn_lift.specs.PlanSource.{PlanSource}
use Rattle.stn_records.specs.Content.{Content, part_of}
use Rattle.stn_site.specs.declared.change.Change.{Change}
use Rattle.stn_world.specs.{Parts.holds_all, World.{World, has_site, content_at, next_id_at}, Steps.{Step, changed, merged, sent, delivered, step_refusal, send_refusal, after}}
use Rattle.stn_command.specs.{Change.made_by, Query.Query}
use Rattle.stn_exec.specs.{declared.answer.Answer.Answer, Command.{Action, change, merge, send_all, send, deliver, query, Command}}
use Rattle.stn_exec.specs.declared.answer.Answer.TheVariants as answer

-- what a line prints: an answer; why there is none; or what is said to a query about a plan and what a site holds
pub data CommandReply : Type 0 where
  said : Answer → CommandReply
  declined : Failure → CommandReply
  told : PlanSource → Content → Query → CommandReply

-- a command's reply, and the world that it leaves
pub record CommandEffect : Type 0 where
  pub world : World
  pub reply : CommandReply

-- a refused command changes nothing
abbrev pub refusing : World → Failure → CommandEffect
refusing world cause = record { world = world; reply = declined cause }

-- a call of the world, which leaves a world and answers what was made;
-- where something refuses the call, that is the answer, and nothing changes
abbrev pub answered : World → World → Answer → Option Failure → CommandEffect
answered world left made cause = record {
  world = if is_some cause then world else left;
  reply = option_map_or declined cause (said made);
}

-- a call that is a step
abbrev pub called : World → Step → Answer → CommandEffect
called world step made = answered world (after world step) made (step_refusal world step)

-- a call that sends a part, of which the site holds all or not: there may be no more packets than the program keeps
abbrev pub sending : World → ℕ → Content → Bool → CommandEffect
sending world site part held =
    answered world (after world (sent site part)) (answer.Sent (length world.packets + 1)) (send_refusal world site held)

-- a change that was read
abbrev pub changing : World → ℕ → Result Change Failure → CommandEffect
changing world site (Ok made) = called world (changed site made) (answer.Changed (made_by made (next_id_at world site)))
changing world site (Err cause) = refusing world cause

-- a query that was read
abbrev pub telling : World → ℕ → Result Query Failure → CommandEffect
telling world site (Ok read) = record { world = world; reply = told world.source (content_at world site) read }
telling world site (Err cause) = refusing world cause

-- a command of a site that is there
abbrev pub action_effect : World → ℕ → Action → CommandEffect
action_effect world site (change asked) = changing world site asked
action_effect world site (merge other) = called world (merged site other) answer.Merged
action_effect world site send_all = sending world site (content_at world site) true
action_effect world site (send records tombstones) =
    sending world site (part_of (content_at world site) records tombstones) (holds_all (content_at world site) records tombstones)
action_effect world site (deliver packet) = called world (delivered site packet) answer.Delivered
action_effect world site (query asked) = telling world site asked

-- a command
abbrev pub command_effect : World → Command → CommandEffect
command_effect world command =
    if has_site world command.site then action_effect world command.site command.action else refusing world (refused NoSite)

-- the step of a call that sends: none where the call is refused, since steps know no limit of packets
abbrev pub sent_step : World → ℕ → Content → Bool → Option Step
sent_step world site part held = if is_some (send_refusal world site held) then None else Some (sent site part)

-- the step that an action of a site is, if it is one: a change whose words could be read, a merge, the sending of a packet, or its delivery
abbrev pub action_step : World → ℕ → Action → Option Step
action_step world site (change asked) = option_map (changed site) (result_ok asked)
action_step world site (merge other) = Some (merged site other)
action_step world site send_all = sent_step world site (content_at world site) true
action_step world site (send records tombstones) =
    sent_step world site (part_of (content_at world site) records tombstones) (holds_all (content_at world site) records tombstones)
action_step world site (deliver packet) = Some (delivered site packet)
action_step world site (query asked) = None

abbrev pub command_step : World → Command → Option Step
command_step world command = action_step world command.site command.action
