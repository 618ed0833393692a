use Rattle.std.{proofs.{Common.{arith, ◌≡◌, set, sym, subst, ◌∙◌, map, ap}, lemmas.Result.on_err_weaker}, specs.{Prelude.IfOk, Rc.rc_value}}
use Rattle.stn_records.specs.Id.{SiteCounter}
use Rattle.stn_site.specs.Change.{change_id, IsAgain}
use Rattle.stn_world.{specs.{Steps.changed, World.next_id_at}, proofs.{Sites.next_id_at-held, Calls.{IsPlaced, IsTaken, held, change_taken}, world.World.change.Given.Over}}
use Rattle.stn_world.proofs.Copies as copy
use Rattle.stn_world.proofs.world.World.change.Goals as goal

pub index_mut-copy-requires : goal.index_mut-copy-requires
index_mut-copy-requires g c = omega (arith, copy.within g.C.SiteCopy.held c.self.inside.copies.items c.self.view_is c.in_ok-place.ensures.within)

placed : (g : Over) (c : goal.After-map_err g) → IsPlaced c.args.self.now (rc_value c.self.inside.base) (map g.C.SiteCopy.held c.self.inside.copies.items) c.self.inside.packets.items c.in_ok-place.place c.args.site (g.C.SiteCopy.held c.index_mut-copy.result.now)
placed g c = copy.placed g.C.SiteCopy.held c.self.inside.copies.items c.index_mut-copy.result.now c.self.view_is c.self.invariant c.in_ok-place.ensures.place c.in_ok-place.ensures.there c.index_mut-copy.ensures.value

taken : (g : Over) (c : goal.After-map_err g)
    → IsTaken c.args.self.now (rc_value c.self.inside.base) (map g.C.SiteCopy.held (set c.self.inside.copies.items c.in_ok-place.place c.change.new.self)) c.self.inside.packets.items (changed c.args.site c.args.asked.now) (λ id. id ≡ change_id c.args.asked.now (next_id_at c.args.self.now c.args.site)) c.map_err.result
taken g c =
    let a = c.change.ensures in
    let asked = c.args.asked.now in
    let given = subst (λ (next : SiteCounter). IfOk c.change.result (λ id. id ≡ change_id asked next)) (next_id_at-held (held (placed g c))) a.id in
    copy.taken g.C.SiteCopy.held c.self.inside.copies.items c.in_ok-place.place c.change.new.self (change_taken (placed g c) c.change.result (g.C.SiteCopy.held c.change.new.self) c.map_err.result (record { free = a.accepted; leaves = a.leaves; given = given; fault = a.fault; kept = on_err_weaker c.change.result (λ same. ap g.C.SiteCopy.held same) a.kept; same = c.map_err.ensures.cases }))

pub invariant_of-self : goal.invariant_of-self
invariant_of-self g c = (taken g c).sound

pub returns : goal.returns
returns g c = record {
  id = (taken g c).given;
  step = (taken g c).step;
  again = λ there is.
      let p = placed g c in
      let same = c.change.ensures.again (subst (IsAgain c.args.asked.now) (sym (held p).state) is) in
      (c.map_err.ensures.variant ∙ same.0, copy.stayed g.C.SiteCopy.held c.self.inside.copies.items c.index_mut-copy.result.now c.change.new.self p same.1);
}
