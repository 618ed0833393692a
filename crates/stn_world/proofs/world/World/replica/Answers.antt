use Rattle.std.proofs.{Common.{map, arith}, lemmas.List.length-map}
use Rattle.stn_world.proofs.{Sites.{IsHeldAt, place_within, held_there}, Copies.got}
use Rattle.stn_world.proofs.world.World.replica.Goals as goal

pub index-requires : goal.index-requires
index-requires g c =
    omega (arith, place_within (map g.C.SiteCopy.held c.self.inside.copies.items) c.self.view_is c.in-Ok.ensures.within, length-map c.self.inside.copies.items g.C.SiteCopy.held)

pub returns-in-Ok : goal.returns-in-Ok
returns-in-Ok g c =
    let there : IsHeldAt c.args.self.now c.args.site (g.C.SiteCopy.held c.index.result.now) =
    held_there c.args.self.now _ (map g.C.SiteCopy.held c.self.inside.copies.items) _ c.args.site (g.C.SiteCopy.held c.index.result.now) c.self.view_is c.self.invariant.sites c.in-Ok.ensures.place c.in-Ok.ensures.there
    (got g.C.SiteCopy.held c.self.inside.copies.items c.in-Ok.place c.index.result.now c.index.ensures) in
    record { there = c.in-Ok.ensures.there; site = there.number; source = there.source; state = there.state }
