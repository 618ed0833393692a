use Rattle.std.proofs.{Common.{length, map, ap, arith}, lemmas.List.length-map}
use Rattle.stn_site.specs.Held.{Held}
use Rattle.stn_world.specs.World.{World}
use Rattle.stn_world.proofs.world.World.sites.Goals as goal

pub returns : goal.returns
returns g c =
    let sites = c.self.invariant.sites in
    record {
      count = omega (arith, c.len.ensures, length-map c.self.inside.copies.items g.C.SiteCopy.held, length-map (map g.C.SiteCopy.held c.self.inside.copies.items) (λ (held : Held). held.state), ap (λ (world : World). length world.sites) c.self.view_is);
      some = omega (arith, c.len.ensures, length-map c.self.inside.copies.items g.C.SiteCopy.held, sites.least);
      most = omega (arith, c.len.ensures, length-map c.self.inside.copies.items g.C.SiteCopy.held, sites.most);
    }
