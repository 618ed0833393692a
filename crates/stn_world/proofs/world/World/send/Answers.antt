use Rattle.std.{proofs.{Common.{arith, ◌≡◌, List, Ok, refl, sym, subst, ap, ◌∙◌, map}, lemmas.Result.err_from_is_err_and}, specs.{Prelude.IfOk, Rc.rc_value}}
use Rattle.stn_records.specs.Content.{Content, part_of}
use Rattle.stn_site.proofs.Values.{ok_not_err}
use Rattle.stn_world.{specs.{Sites.world_of, World.content_at}, proofs.{Sites.held_there, Calls.{held, sent_sound, sent_taken}, Sendings.{send_full, send_memory, part_made, part_refused, holds_there, part_free}, world.World.send.{Given.Over, Goals.In_ok-part}}}
use Rattle.stn_world.proofs.Copies as copy
use Rattle.stn_world.proofs.world.World.send.Goals as goal

pub index-requires : goal.index-requires
index-requires g c = omega (arith, copy.within g.C.SiteCopy.held c.self.inside.copies.items c.self.view_is c.in_ok-place.ensures.within)

pub returns-in_err-number : goal.returns-in_err-number
returns-in_err-number g c =
    let p = err_from_is_err_and c.from_residual-in_err-number.result c.from_residual-in_err-number.ensures.1 in
    rw (p.1, p.2) (record { step = (send_full _ c.in_ok-place.ensures.there c.in_err-number.ensures.full c.in_err-number.ensures.refused, refl) })

-- the part that was made
made : (g : Over) (c : In_ok-part g) → c.part.result ≡ Ok c.in_ok-part.part
made g c = part_made c.map_err.ensures.cases c.in_ok-part.was

is_part : (g : Over) (c : In_ok-part g) → c.in_ok-part.part ≡ part_of c.records.result.now c.args.records.now c.args.tombstones.now
is_part g c = subst (λ part. IfOk part (λ one. one ≡ part_of c.records.result.now c.args.records.now c.args.tombstones.now)) (made g c) c.part.ensures.part

pub returns-in_err-part : goal.returns-in_err-part
returns-in_err-part g c =
    let p = err_from_is_err_and c.from_residual-in_err-part.result c.from_residual-in_err-part.ensures.1 in
    let held = held_there c.args.self.now _ (map g.C.SiteCopy.held c.self.inside.copies.items) _ c.args.site (g.C.SiteCopy.held c.index.result.now) c.self.view_is c.self.invariant.sites c.in_ok-place.ensures.place c.in_ok-place.ensures.there (copy.got g.C.SiteCopy.held c.self.inside.copies.items c.in_ok-place.place c.index.result.now c.index.ensures) in
    rw (p.1, p.2) (record {
      step = (
        part_refused c.args.self.now c.args.site c.in_ok-place.ensures.there c.in_ok-number.ensures.room c.args.records.now c.args.tombstones.now _ c.part.result
            (c.records.ensures.value ∙ c.plan.ensures.state ∙ held.state) c.part.ensures.unknown c.map_err.ensures.cases c.in_err-part.was,
        refl,
      );
    })

pub returns-in_err-push : goal.returns-in_err-push
returns-in_err-push g c =
    let p = err_from_is_err_and c.from_residual-in_err-push.result c.from_residual-in_err-push.ensures.1 in
    let held = held_there c.args.self.now _ (map g.C.SiteCopy.held c.self.inside.copies.items) _ c.args.site (g.C.SiteCopy.held c.index.result.now) c.self.view_is c.self.invariant.sites c.in_ok-place.ensures.place c.in_ok-place.ensures.there (copy.got g.C.SiteCopy.held c.self.inside.copies.items c.in_ok-place.place c.index.result.now c.index.ensures) in
    let all = holds_there c.records.result.now (content_at c.args.self.now c.args.site) c.args.records.now c.args.tombstones.now (c.records.ensures.value ∙ c.plan.ensures.state ∙ held.state) (c.part.ensures.held (λ unknown. ok_not_err (sym (made g (goal.at.returns-in_err-push g c).In_ok-part) ∙ unknown))) in
    rw (p.1, p.2) (record {
      step = (
        send_memory c.args.self.now c.args.site c.in_ok-place.ensures.there c.in_ok-number.ensures.room all,
        ap (λ (l : List Content). world_of (rc_value c.self.inside.base) (map g.C.SiteCopy.held c.self.inside.copies.items) l) c.in_err-push.ensures.items ∙ c.self.view_is,
      );
    })

pub invariant_of-self-2 : goal.invariant_of-self-2
invariant_of-self-2 g c =
    let placed = copy.placed g.C.SiteCopy.held c.self.inside.copies.items c.index.result.now c.self.view_is c.self.invariant c.in_ok-place.ensures.place c.in_ok-place.ensures.there c.index.ensures in
    let same = is_part g (goal.at.invariant_of-self-2 g c).In_ok-part ∙ ap (λ (s : Content). part_of s c.args.records.now c.args.tombstones.now) (c.records.ensures.value ∙ c.plan.ensures.state ∙ (held placed).state) in
    sent_sound placed c.in_ok-number.ensures.room _ c.in_ok-part.part _ same (part_free c.args.self.now c.args.site c.args.records.now c.args.tombstones.now c.in_ok-place.ensures.there) c.in_ok-push.ensures.items

pub returns : goal.returns
returns g c =
    let placed = copy.placed g.C.SiteCopy.held c.self.inside.copies.items c.index.result.now c.self.view_is c.self.invariant c.in_ok-place.ensures.place c.in_ok-place.ensures.there c.index.ensures in
    let state = c.records.ensures.value ∙ c.plan.ensures.state ∙ (held placed).state in
    let same = is_part g (goal.at.returns g c).In_ok-part ∙ ap (λ (s : Content). part_of s c.args.records.now c.args.tombstones.now) state in
    let all = holds_there c.records.result.now (content_at c.args.self.now c.args.site) c.args.records.now c.args.tombstones.now state (c.part.ensures.held (λ unknown. ok_not_err (sym (made g (goal.at.returns g c).In_ok-part) ∙ unknown))) in
    record { step = sent_taken placed c.in_ok-number.ensures.room _ c.in_ok-part.part _ same (part_free c.args.self.now c.args.site c.args.records.now c.args.tombstones.now c.in_ok-place.ensures.there) c.in_ok-push.ensures.items all {number = c.in_ok-number.number} c.in_ok-number.ensures.number }
