use Rattle.std.{proofs.{Common.{rules, arith, true, List, refl, ap, ◌∙◌, map}, lemmas.Result.err_from_is_err_and}, specs.Rc.rc_value}
use Rattle.stn_records.specs.Content.{Content}
use Rattle.stn_world.{specs.Sites.world_of, proofs.{Calls.{held, sent_sound, sent_taken}, Sendings.{send_full, send_memory, all_free}}}
use Rattle.stn_world.proofs.Copies as copy
use Rattle.stn_world.proofs.world.World.send_all.Goals as goal

pub index-requires : goal.index-requires
index-requires g c = omega (arith, copy.within g.C.SiteCopy.held c.self.inside.copies.items c.self.view_is c.in_ok-place.ensures.within)

pub returns-in_err-number : goal.returns-in_err-number
returns-in_err-number g c =
    let p = err_from_is_err_and c.from_residual-in_err-number.result c.from_residual-in_err-number.ensures.1 in
    rw (p.1, p.2) (record { step = (send_full true c.in_ok-place.ensures.there c.in_err-number.ensures.full c.in_err-number.ensures.refused, refl) })

pub returns-in_err-whole : goal.returns-in_err-whole
returns-in_err-whole g c = search (rules, err_from_is_err_and)

pub returns-in_err-push : goal.returns-in_err-push
returns-in_err-push g c =
    let p = err_from_is_err_and c.from_residual-in_err-push.result c.from_residual-in_err-push.ensures.1 in
    rw (p.1, p.2) (record {
      step = (
        send_memory c.args.self.now c.args.site c.in_ok-place.ensures.there c.in_ok-number.ensures.room refl,
        ap (λ (l : List Content). world_of (rc_value c.self.inside.base) (map g.C.SiteCopy.held c.self.inside.copies.items) l) c.in_err-push.ensures.items ∙ c.self.view_is,
      );
    })

pub invariant_of-self-2 : goal.invariant_of-self-2
invariant_of-self-2 g c =
    let placed = copy.placed g.C.SiteCopy.held c.self.inside.copies.items c.index.result.now c.self.view_is c.self.invariant c.in_ok-place.ensures.place c.in_ok-place.ensures.there c.index.ensures in
    sent_sound placed c.in_ok-number.ensures.room _ c.in_ok-whole.whole _ (c.in_ok-whole.ensures ∙ (c.records.ensures.value ∙ c.plan.ensures.state ∙ (held placed).state)) (all_free c.args.self.now c.args.site c.in_ok-place.ensures.there) c.in_ok-push.ensures.items

pub returns : goal.returns
returns g c =
    let placed = copy.placed g.C.SiteCopy.held c.self.inside.copies.items c.index.result.now c.self.view_is c.self.invariant c.in_ok-place.ensures.place c.in_ok-place.ensures.there c.index.ensures in
    let same = c.in_ok-whole.ensures ∙ (c.records.ensures.value ∙ c.plan.ensures.state ∙ (held placed).state) in
    record { step = sent_taken placed c.in_ok-number.ensures.room _ c.in_ok-whole.whole _ same (all_free c.args.self.now c.args.site c.in_ok-place.ensures.there) c.in_ok-push.ensures.items refl c.in_ok-number.ensures.number }
