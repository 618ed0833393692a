use Rattle.std.{proofs.{Common.{Some, refl, sym, ap, subst, ◌∙◌}, lemmas.{Bool.false≢true, Result.err_from_is_err_and}}, specs.{Rc.rc_value, Prelude.unwrap_or}}
use Rattle.stn_lift.specs.PlanSource.{events_of}
use Rattle.stn_records.{specs.Refusals.join_refusal as records_take, proofs.Holding.joined_is}
use Rattle.stn_site.{specs.{Bounds.RecordsName, Held.Held, Refusals.take_refusal, declared.faults.ReplicaFault.TheVariants.Memory}, proofs.{Named.{named_held, named_joined}, Refused.{told, let_through, taken_in, can_hold, unnamed_take}}}
use Rattle.stn_site.proofs.site_plan.SitePlan.take_in.Goals as goal

pub returns-then-holds : goal.returns-then-holds
returns-then-holds g c =
    let held : Held = record { site = c.self.inside.site; source = rc_value c.self.inside.base; state = c.self.inside.records; steps = 0 } in
    let is = c.if-holds.ensures.taken.0 refl in
    rw (← c.self.view_is) (record {
      leaves = record { site = refl; source = refl; state = joined_is held.state c.args.other.now is };
      none = (λ _. c.if-holds.ensures.part.0 refl, λ _. refl);
      before = refl;
      again = λ part. (refl, refl);
      accepted = can_hold held c.args.other.now (named_held (events_of held.source) held.state c.args.other.now is c.self.invariant) is;
      fault = tt;
      kept = tt;
    })

pub returns-then-not-all_name_events : goal.returns-then-not-all_name_events
returns-then-not-all_name_events g c =
    let held : Held = record { site = c.self.inside.site; source = rc_value c.self.inside.base; state = c.self.inside.records; steps = 0 } in
    let unnamed : ¬ RecordsName (events_of held.source) c.args.other.now =
    λ named. false≢true (c.if-not-all_name_events.ensures.1 (subst (λ n. RecordsName n c.args.other.now) (sym (c.events.ensures.value ∙ ap events_of c.deref.ensures)) named)) in
    rw (← c.self.view_is) (record {
      leaves = tt;
      none = tt;
      before = tt;
      again = λ part. absurd (false≢true (c.if-holds.ensures.part.1 part));
      accepted = tt;
      fault = ap (λ o. unwrap_or o Memory) (sym (unnamed_take held c.args.other.now unnamed));
      kept = refl;
    })

pub returns-in_err-records : goal.returns-in_err-records
returns-in_err-records g c =
    let held : Held = record { site = c.self.inside.site; source = rc_value c.self.inside.base; state = c.self.inside.records; steps = 0 } in
    let p = err_from_is_err_and c.from_residual.result c.from_residual.ensures.1 in
    let theirs : RecordsName (events_of held.source) c.args.other.now =
    subst (λ n. RecordsName n c.args.other.now) (c.events.ensures.value ∙ ap events_of c.deref.ensures) (c.if-not-all_name_events.ensures.0 refl) in
    rw (p.1, p.2, ← c.self.view_is) (record {
      leaves = tt;
      none = tt;
      before = tt;
      again = λ part. absurd (false≢true (c.if-holds.ensures.part.1 part));
      accepted = tt;
      fault = told (records_take held.state c.args.other.now) (take_refusal held c.args.other.now) (taken_in held c.args.other.now theirs) c.in_err-records.field-0.0 c.in_err-records.ensures.fault;
      kept = refl;
    })

pub invariant_of-self : goal.invariant_of-self
invariant_of-self g c =
    let theirs : RecordsName (events_of (rc_value c.self.inside.base)) c.args.other.now =
    subst (λ n. RecordsName n c.args.other.now) (c.events.ensures.value ∙ ap events_of c.deref.ensures) (c.if-not-all_name_events.ensures.0 refl) in
    rw c.replace.ensures.after
    (named_joined (events_of (rc_value c.self.inside.base)) c.self.inside.records c.args.other.now c.in_ok-records.records c.in_ok-records.ensures.joined c.self.invariant theirs)

pub returns : goal.returns
returns g c =
    let held : Held = record { site = c.self.inside.site; source = rc_value c.self.inside.base; state = c.self.inside.records; steps = 0 } in
    let theirs : RecordsName (events_of held.source) c.args.other.now =
    subst (λ n. RecordsName n c.args.other.now) (c.events.ensures.value ∙ ap events_of c.deref.ensures) (c.if-not-all_name_events.ensures.0 refl) in
    rw (← c.self.view_is) (record {
      leaves = record { site = refl; source = refl; state = c.in_ok-records.ensures.joined ∙ ap Some (sym c.replace.ensures.after) };
      none = (λ nothing. absurd (false≢true (sym nothing)), λ part. absurd (false≢true (c.if-holds.ensures.part.1 part)));
      before = c.replace.ensures.value;
      again = λ part. absurd (false≢true (c.if-holds.ensures.part.1 part));
      accepted = let_through (records_take held.state c.args.other.now) (take_refusal held c.args.other.now) (taken_in held c.args.other.now theirs) c.in_ok-records.ensures.accepted;
      fault = tt;
      kept = tt;
    })
