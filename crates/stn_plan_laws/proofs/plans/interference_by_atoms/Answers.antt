use Rattle.std.proofs.{Common.{rules, Decides}, lemmas.Bool.Decides.Decides-or}
use Rattle.stn_lift.{specs.Footprints.{Footprint, GroundAtom, is_same_atom, touches, DoesTouch}, proofs.Sharing.{share-Decides, is_same_atom-Decides}}
use Rattle.stn_plan_laws.proofs.plans.interference_by_atoms.Goals as goal

touches-Decides : (one other : Footprint GroundAtom) → Decides (touches is_same_atom one other) (DoesTouch one other)
touches-Decides one other =
    let shares = share-Decides is_same_atom is_same_atom-Decides in
    search rules

pub returns : goal.returns
returns c = search (rules, Decides-or, touches-Decides)
