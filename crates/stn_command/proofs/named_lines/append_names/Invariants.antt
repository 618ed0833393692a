use Rattle.std.{proofs.Common.{◌≡◌, ◌++◌, ◌≤◌, ℕ, false, get_or, length, map, take}, specs.{List.{flat_map, list_any, range_with_len}, Prelude.{◌==◌, slice_index_or}}}
use Rattle.stn_net.specs.Event.{most_steps}
use Rattle.stn_lift.specs.BaseBounds.{step_of}
use Rattle.stn_command.specs.NamedLines.{name_after}
use Rattle.stn_command.proofs.named_lines.append_names.Given as goal

abbrev pub invariant-loop-event : goal.invariant-loop-event
invariant-loop-event g l = record {
  text : l.out.items ≡ l.initial.out.items
      ++ flat_map (λ place. name_after (map (λ name. name.items) l.names) (take place l.events) (slice_index_or l.events place 0)) (range_with_len 0 l.event-index);
  one_each : length l.named_steps ≡ 257;
  named : (step : ℕ) → step ≤ most_steps → get_or l.named_steps step false ≡ list_any (λ other. step_of other == step) (take l.event-index l.events);
}
