use Rattle.std.proofs.Common.{◌≡◌, take, map}
use Rattle.stn_loosen.specs.Starting.{link_moved}
use Rattle.stn_loosen.proofs.crossed.placed.Given as goal

abbrev pub invariant-loop-link : goal.invariant-loop-link
invariant-loop-link g l = l.all.items ≡ map (link_moved l.places) (take l.link-index l.links)
