use Rattle.std.{proofs.{Common.{rules, inl, ◌≡◌, ◌<◌, get_or, Result, set, length, map, refl, sym, ap, subst, ◌∙◌, arith}, lemmas.Result.{err_from_is_err_and, on_err_weaker}}, specs.{Prelude.{⊤, IfOk, IsOk, if◌then◌else◌, option_map}, List.insert, Rc.rc_value}}
use Rattle.stn_site.specs.{Calls.took, Failures.replica_failure, Refusals.take_refusal}
use Rattle.stn_world.{specs.{Steps.{step_refusal, merged, IsMergeFailure}, World.{HasSite, held_at, content_at}}, proofs.{Accepted.{site_missing, merge_itself, merge_refusal, other_missing}, Sites.{part_there, held_there}, Calls.{IsPlaced, IsAnswer, IsTaken, held, take_taken, take_agreed}, Merges.{one_site, other_site, merged_itself, merge_agrees}, world.World.merge.{Given.Over, Goals.After-map_err}}}
use Rattle.stn_world.proofs.Copies as copy
use Rattle.stn_world.proofs.world.World.merge.Goals as goal

pub returns-in_err-ours : goal.returns-in_err-ours
returns-in_err-ours g c =
    let p = err_from_is_err_and c.from_residual.result c.from_residual.ensures.1 in
    let missing = c.in_err-ours.ensures.refused in
    rw (p.1, p.2) (record {
      step = (site_missing _ c.in_err-ours.ensures.missing missing, refl);
      itself = λ there one. absurd (missing there);
      again = λ there others inside. absurd (missing there);
      agreed = inl c.in_err-ours.ensures.missing;
    })

pub returns-in_err-theirs : goal.returns-in_err-theirs
returns-in_err-theirs g c =
    let p = err_from_is_err_and c.from_residual-in_err-theirs.result c.from_residual-in_err-theirs.ensures.1 in
    let missing = c.in_err-theirs.ensures.refused in
    rw (p.1, p.2) (record {
      step = (other_missing c.in_ok-ours.ensures.there c.in_err-theirs.ensures.missing missing, refl);
      itself = λ there one. absurd (missing (subst (HasSite c.args.self.now) one there));
      again = λ there others inside. absurd (missing others);
      agreed = inl c.in_err-theirs.ensures.missing;
    })

pub returns-then-ours-theirs : goal.returns-then-ours-theirs
returns-then-ours-theirs g c =
    let one = one_site c.if-ours-theirs.true c.in_ok-ours.ensures.place c.in_ok-theirs.ensures.place c.in_ok-ours.ensures.there c.in_ok-theirs.ensures.there in
    record {
      step = (merge_itself c.in_ok-ours.ensures.there c.in_ok-theirs.ensures.there one, merged_itself one);
      itself = λ there same. refl;
      again = λ there others inside. (refl, refl);
      agreed = tt;
    }

pub remove-copy-requires : goal.remove-copy-requires
remove-copy-requires g c = omega (arith, copy.within g.C.SiteCopy.held c.self.inside.copies.items c.self.view_is c.in_ok-ours.ensures.within)

ours_within : (g : Over) (c : After-map_err g) → c.in_ok-ours.ours < length c.self.inside.copies.items
ours_within g c = copy.within g.C.SiteCopy.held c.self.inside.copies.items c.self.view_is c.in_ok-ours.ensures.within

-- the copies with the one that took put back
back : (g : Over) (c : After-map_err g) → c.insert-back.new.self.items ≡ set c.self.inside.copies.items c.in_ok-ours.ours c.take-outcome.new.self
back g c =
    let copies = c.self.inside.copies in
    let beside = c.remove-copy.new.self in
    let there : IsOk c.insert-back.result = omega arith in
    c.insert-back.ensures.items
    ∙ ap (λ full. if full then insert beside.items c.in_ok-ours.ours c.take-outcome.new.self else beside.items) there
    ∙ ap (λ l. insert l c.in_ok-ours.ours c.take-outcome.new.self) c.remove-copy.ensures.items
    ∙ copy.put_back g.C.SiteCopy.held copies.items c.in_ok-ours.ours c.take-outcome.new.self (ours_within g c)

placed : (g : Over) (c : After-map_err g) → IsPlaced c.args.self.now (rc_value c.self.inside.base) (map g.C.SiteCopy.held c.self.inside.copies.items) c.self.inside.packets.items c.in_ok-ours.ours c.args.site (g.C.SiteCopy.held c.remove-copy.result)
placed g c = copy.placed g.C.SiteCopy.held c.self.inside.copies.items c.remove-copy.result c.self.view_is c.self.invariant c.in_ok-ours.ensures.place c.in_ok-ours.ensures.there c.remove-copy.ensures.value

-- what the other site holds
theirs : (g : Over) (c : After-map_err g) → c.records.result.now ≡ content_at c.args.self.now c.args.other
theirs g c =
    let one = c.index-from.result.now in
    let copies = c.self.inside.copies.items in
    let same = copy.beside g.C.SiteCopy.held copies c.in_ok-ours.ours c.in_ok-theirs.theirs c.place_without.result one (ours_within g c) (λ same. c.if-ours-theirs.false (sym same))
    c.place_without.ensures.before c.place_without.ensures.after (subst (λ l. one ≡ get_or l c.place_without.result one) c.remove-copy.ensures.items c.index-from.ensures) in
    c.records.ensures.value ∙ c.plan.ensures.state
    ∙ (held_there c.args.self.now (rc_value c.self.inside.base) (map g.C.SiteCopy.held copies) c.in_ok-theirs.theirs c.args.other (g.C.SiteCopy.held one) c.self.view_is c.self.invariant.sites
    c.in_ok-theirs.ensures.place c.in_ok-theirs.ensures.there (copy.got g.C.SiteCopy.held copies c.in_ok-theirs.theirs one same)).state

given : {T E : Type 0} (r : Result T E) → IfOk r (λ _. ⊤)
given r = search rules

answer : (g : Over) (c : After-map_err g) → IsAnswer (g.C.SiteCopy.held c.remove-copy.result) (take_refusal (g.C.SiteCopy.held c.remove-copy.result) c.records.result.now) (λ _. took c.records.result.now) (λ _. ⊤) c.take-outcome.result (g.C.SiteCopy.held c.take-outcome.new.self) c.map_err.result
answer g c = record {
  free = c.take-outcome.ensures.accepted;
  leaves = c.take-outcome.ensures.leaves;
  given = given c.take-outcome.result;
  fault = c.take-outcome.ensures.fault;
  kept = on_err_weaker c.take-outcome.result (λ same. ap g.C.SiteCopy.held same) c.take-outcome.ensures.kept;
  same = c.map_err.ensures.cases;
}

refused : (g : Over) (c : After-map_err g) → step_refusal c.args.self.now (merged c.args.site c.args.other) ≡ option_map replica_failure (take_refusal (held_at c.args.self.now c.args.site) (content_at c.args.self.now c.args.other))
refused g c =
    merge_refusal c.in_ok-ours.ensures.there c.in_ok-theirs.ensures.there
    (other_site c.in_ok-ours.ensures.place c.in_ok-theirs.ensures.place c.if-ours-theirs.false)

taken : (g : Over) (c : After-map_err g) → IsTaken c.args.self.now (rc_value c.self.inside.base) (map g.C.SiteCopy.held c.insert-back.new.self.items) c.self.inside.packets.items (merged c.args.site c.args.other) (λ _. ⊤) c.map_err.result
taken g c =
    rw (back g c) (copy.taken g.C.SiteCopy.held c.self.inside.copies.items c.in_ok-ours.ours c.take-outcome.new.self
    (take_taken (placed g c) (merged c.args.site c.args.other) c.records.result.now (content_at c.args.self.now c.args.other) (theirs g c) (refused g c) refl c.take-outcome.result (g.C.SiteCopy.held c.take-outcome.new.self) c.map_err.result (answer g c)))

pub invariant_of-self : goal.invariant_of-self
invariant_of-self g c = (taken g (goal.at.invariant_of-self g c).After-map_err).sound

pub returns-clause-step : goal.returns-clause-step
returns-clause-step g c = (taken g (goal.at.returns-clause-step g c).After-map_err).step

pub returns-clause-again : goal.returns-clause-again
returns-clause-again g c = λ there others inside.
    let at = (goal.at.returns-clause-again g c).After-map_err in
    let same = c.take-outcome.ensures.again (part_there (held (placed g at)) (theirs g at) inside) in (
      c.map_err.ensures.variant ∙ same.0,
      rw (back g at) (copy.stayed g.C.SiteCopy.held c.self.inside.copies.items c.remove-copy.result c.take-outcome.new.self (placed g at) same.1),
    )

pub returns-clause-agreed : goal.returns-clause-agreed
returns-clause-agreed g c =
    let at = (goal.at.returns-clause-agreed g c).After-map_err in
    take_agreed (placed g at) (merged c.args.site c.args.other) c.records.result.now (content_at c.args.self.now c.args.other) (theirs g at) (refused g at) IsMergeFailure
    (merge_agrees c.args.self.now c.args.site c.args.other) c.take-outcome.result (answer g at)
