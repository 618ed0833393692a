use Rattle.std.proofs.Common.{◌≡◌, map, take}
use Rattle.stn_loosen.specs.{Slack.loose, Making.with_more}
use Rattle.stn_loosen.proofs.making.Making.make_durations.Given as goal

abbrev pub invariant-loop-duration : goal.invariant-loop-duration
invariant-loop-duration g l = l.self ≡ with_more l.initial.self (map (loose l.tolerance) (take l.duration-index l.durations))
