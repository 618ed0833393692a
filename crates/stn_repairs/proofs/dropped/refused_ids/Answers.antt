use Rattle.std.proofs.{Common.{rules, ◌≡◌, ◌+◌, [], ◌∷◌, ◌++◌, ap, sym, subst, ◌∙◌, arith}, lemmas.Bool.iff_false}
use Rattle.stn_conflict.specs.Listing.{ListedBounds}
use Rattle.stn_lift.specs.PlanSource.{base_bounds}
use Rattle.stn_repairs.proofs.{Listing.named_at, Refusing.{IsRefusedSoFar, keeps_one, refuses_one, all_refused}, dropped.refused_ids.Goals.{then-not-branch+in_ok-push, else-not-branch}}
use Rattle.stn_repairs.proofs.dropped.refused_ids.Goals as goal

pub take-requires : goal.take-requires
take-requires g c = search (rules, named_at)

pub loop-id-preserved : goal.loop-id-preserved
loop-id-preserved g c =
    let base = base_bounds c.args.plan.now.source in
    let order = c.args.order.now in
    let index = c.loop-id.id-index in
    let entry = c.loop-id-item.result in
    let refused = c.loop-id.refused.items in
    let h = c.loop-id.invariant in
    let e = c.in_ok-take.ensures in
    elim c.if-not-branch.branch [
      | then-not-branch+in_ok-push w ↦
          let same : c.take.new.self ≡ c.loop-id.kept = e.refused w.if-not-branch.true in
          record {
            events = ap (λ (l : ListedBounds). l.events) same ∙ h.events;
            so_far = rw (w.refused-is, w.in_ok-push.ensures.items) (subst (IsRefusedSoFar base order (index + 1) (refused ++ entry.0 ∷ [])) (sym (ap (λ (l : ListedBounds). l.bounds) same))
                (refuses_one base order index entry refused c.loop-id.kept.bounds c.loop-id-test.true c.loop-id-item.is h.so_far (iff_false e.possible w.if-not-branch.true)));
          }
      | else-not-branch w ↦
          let grown = e.taken w.if-not-branch.false in
          record {
            events = ap (λ (l : ListedBounds). l.events) grown ∙ h.events;
            so_far = rw w.refused-is (subst (IsRefusedSoFar base order (index + 1) refused) (sym (ap (λ (l : ListedBounds). l.bounds) grown))
                (keeps_one base order index entry refused c.loop-id.kept.bounds c.loop-id-test.true c.loop-id-item.is h.so_far (e.possible.0 w.if-not-branch.false)));
          }
    ]

pub returns : goal.returns
returns g c = all_refused (base_bounds c.args.plan.now.source) c.args.order.now c.loop-id.id-index c.loop-id.refused.items c.loop-id.kept.bounds c.loop-id-test.false c.loop-id.invariant.so_far

pub returns-in_err-push : goal.returns-in_err-push
returns-in_err-push g c = grind (arith)
