use Rattle.std.{proofs.{Common.{rules, arith, ◌≡◌, Result, refl, set, ◌∙◌, map, ap}, lemmas.Result.{err_from_is_err_and, on_err_weaker}}, specs.{Prelude.{⊤, IfOk}, Rc.rc_value}}
use Rattle.stn_site.specs.{Calls.took, Refusals.take_refusal}
use Rattle.stn_world.{specs.{Steps.{delivered, IsDeliveryFailure}, World.packet_at}, proofs.{Accepted.{delivery_refusal, packet_missing}, Merges.delivery_agrees, Sites.{part_there, packet_there}, Calls.{IsPlaced, IsAnswer, IsTaken, held, take_taken, take_agreed}, world.World.deliver.Given.Over}}
use Rattle.stn_world.proofs.Copies as copy
use Rattle.stn_world.proofs.world.World.deliver.Goals as goal

pub index_mut-requires : goal.index_mut-requires
index_mut-requires g c = omega (arith, copy.within g.C.SiteCopy.held c.self.inside.copies.items c.self.view_is c.in_ok-place.ensures.within)

pub returns-in_err-from-clause-step : goal.returns-in_err-from-clause-step
returns-in_err-from-clause-step g c =
    let p = err_from_is_err_and c.from_residual-in_err-from.result c.from_residual-in_err-from.ensures.1 in
    rw (p.1, p.2) (packet_missing c.in_ok-place.ensures.there c.in_err-from.ensures.missing c.in_err-from.ensures.refused, refl)

placed : (g : Over) (c : goal.After-map_err g) → IsPlaced c.args.self.now (rc_value c.self.inside.base) (map g.C.SiteCopy.held c.self.inside.copies.items) c.self.inside.packets.items c.in_ok-place.place c.args.site (g.C.SiteCopy.held c.index_mut.result.now)
placed g c = copy.placed g.C.SiteCopy.held c.self.inside.copies.items c.index_mut.result.now c.self.view_is c.self.invariant c.in_ok-place.ensures.place c.in_ok-place.ensures.there c.index_mut.ensures.value

packet : (g : Over) (c : goal.After-map_err g) → c.index.result.now ≡ packet_at c.args.self.now c.args.packet
packet g c = packet_there (map g.C.SiteCopy.held c.self.inside.copies.items) c.self.view_is c.in_ok-from.ensures.place c.in_ok-from.ensures.there c.index.ensures

given : {T E : Type 0} (r : Result T E) → IfOk r (λ _. ⊤)
given r = search rules

answer : (g : Over) (c : goal.After-map_err g) → IsAnswer (g.C.SiteCopy.held c.index_mut.result.now) (take_refusal (g.C.SiteCopy.held c.index_mut.result.now) c.index.result.now) (λ _. took c.index.result.now) (λ _. ⊤) c.take.result (g.C.SiteCopy.held c.take.new.self) c.map_err.result
answer g c = record { free = c.take.ensures.accepted; leaves = c.take.ensures.leaves; given = given c.take.result; fault = c.take.ensures.fault; kept = on_err_weaker c.take.result (λ same. ap g.C.SiteCopy.held same) c.take.ensures.kept; same = c.map_err.ensures.cases }

taken : (g : Over) (c : goal.After-map_err g)
    → IsTaken c.args.self.now (rc_value c.self.inside.base) (map g.C.SiteCopy.held (set c.self.inside.copies.items c.in_ok-place.place c.take.new.self)) c.self.inside.packets.items (delivered c.args.site c.args.packet) (λ _. ⊤) c.map_err.result
taken g c =
    copy.taken g.C.SiteCopy.held c.self.inside.copies.items c.in_ok-place.place c.take.new.self (take_taken (placed g c) (delivered c.args.site c.args.packet) c.index.result.now (packet_at c.args.self.now c.args.packet) (packet g c)
    (delivery_refusal c.args.self.now c.args.site c.args.packet c.in_ok-place.ensures.there c.in_ok-from.ensures.there) refl c.take.result (g.C.SiteCopy.held c.take.new.self) c.map_err.result (answer g c))

pub invariant_of-self : goal.invariant_of-self
invariant_of-self g c = (taken g c).sound

pub returns : goal.returns
returns g c =
    record {
      step = (taken g c).step;
      again = λ there sent inside.
          let same = c.take.ensures.again (part_there (held (placed g c)) (packet g c) inside) in
          (c.map_err.ensures.variant ∙ same.0, copy.stayed g.C.SiteCopy.held c.self.inside.copies.items c.index_mut.result.now c.take.new.self (placed g c) same.1);
      agreed = take_agreed (placed g c) (delivered c.args.site c.args.packet) c.index.result.now (packet_at c.args.self.now c.args.packet) (packet g c)
          (delivery_refusal c.args.self.now c.args.site c.args.packet c.in_ok-place.ensures.there c.in_ok-from.ensures.there) IsDeliveryFailure (delivery_agrees c.args.self.now c.args.site c.args.packet) c.take.result
          {new = (g.C.SiteCopy.held c.take.new.self)} {result = c.map_err.result} (answer g c);
    }
