-- For proofs alone: no public clause cites these words.
-- What the code has read of a line, and what running it leaves.
use Rattle.std.specs.{Prelude.{◌≡◌, ℕ, Bool, List, ◌++◌}, Bool.Decides}
use Rattle.stn_effects.specs.Effects.{seen}
use Rattle.stn_text.specs.Lines.{words_of}
use Rattle.stn_world.specs.World.{World}
use Rattle.stn_command.specs.Query.{seen_query}
use Rattle.stn_exec.specs.{declared.command.{Command.Command as CommandOfLine, Action.Action as ActionOfLine}, Effect.CommandEffect, Output.{IsReplyText, IsRefusal}, Command.{Action, change, merge, send_all, send_items, deliver, query, check_read, Command, sites_command}}
use Rattle.stn_exec.specs.declared.command.Action.TheVariants as line

-- the action that the code has read from a line
abbrev pub seen_action : ActionOfLine → Action
seen_action (line.Change asked) = change asked
seen_action (line.Merge other) = merge other
seen_action line.SendAll = send_all
seen_action (line.Send items) = send_items (words_of items.now)
seen_action (line.Deliver packet) = deliver packet
seen_action (line.Check times) = query (check_read (words_of times.now))
seen_action (line.Query asked) = query (seen seen_query asked)

-- the command
abbrev pub seen_command : CommandOfLine → Command
seen_command command = sites_command command.site (seen_action command.action)

-- the effect's world is left, its reply's text was appended, and the answer says whether it is a refusal
pub record IsReplied (world : World) (old new : List ℕ) (effect : CommandEffect) (refused : Bool) : Type 0 where
  pub text : List ℕ
  pub left : world ≡ effect.world
  pub printed : IsReplyText effect.reply text
  pub appended : new ≡ old ++ text
  pub answered : Decides refused (IsRefusal effect.reply)
