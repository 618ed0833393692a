use Rattle.std.{proofs.Common.take, specs.List.Any}
use Rattle.stn_repairs.specs.Links.{IsLinkOf}
use Rattle.stn_repairs.proofs.repairs.has_link_of.Given as goal

abbrev pub invariant-loop-link : goal.invariant-loop-link
invariant-loop-link l = Any (IsLinkOf l.count l.live l.id) (take l.link-index l.links) → ⊥
