use Rattle.std.proofs.Common.{◌≡◌, take, map}
use Rattle.stn_loosen.specs.{Slack.loose, Loosened.durations_of}
use Rattle.stn_loosen.proofs.starts.loose_durations.Given as goal

abbrev pub invariant-loop-duration : goal.invariant-loop-duration
invariant-loop-duration g l = l.loose.items ≡ map (loose l.tolerance) (take l.duration-index (durations_of l.base))
