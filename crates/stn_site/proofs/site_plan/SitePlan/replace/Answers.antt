use Rattle.std.{proofs.{Common.{◌≡◌, None, is_some, refl, sym, ap, subst, ◌∙◌}, lemmas.{Bool.false≢true, Result.err_from_is_err_and}}, specs.{Rc.rc_value}}
use Rattle.stn_net.specs.Difference.{NamesEvents}
use Rattle.stn_lift.specs.PlanSource.{events_of}
use Rattle.stn_records.specs.{Content.{Content, plain}, Refusals.amendment_refusal}
use Rattle.stn_site.{specs.{Held.Held, Refusals.next_refusal}, proofs.{Amended.amended_next, Counts.replaces_nothing, Named.named_added, Refused.{told, let_through}}}
use Rattle.stn_site.proofs.site_plan.SitePlan.replace.Goals as goal

pub prove-unreachable-requires : goal.prove-unreachable-requires
prove-unreachable-requires g c =
    let unknown = rw (← c.self.view_is) at c.in_ok-id.ensures.unknown in
    let nothing = replaces_nothing c.self.inside.records c.in_ok-id.id c.state.ensures.sound.amends unknown in
    let found : c.get.result ≡ None = cc in
    false≢true (ap is_some (sym found) ∙ c.if-prove.ensures)

pub returns-in_err-amend : goal.returns-in_err-amend
returns-in_err-amend g c =
    let p = err_from_is_err_and c.from_residual-in_err-amend.result c.from_residual-in_err-amend.ensures.1 in
    let held : Held = record { site = c.self.inside.site; source = rc_value c.self.inside.base; state = c.self.inside.records; steps = 0 } in
    let left = rw (← c.self.view_is) at c.in_ok-id.ensures.left in
    let unknown = rw (← c.self.view_is) at c.in_ok-id.ensures.unknown in
    let known = rw (← c.self.view_is) at c.requires.known in
    rw (p.1, p.2, ← c.self.view_is) (record {
      leaves = tt;
      accepted = tt;
      fault = told (amendment_refusal held.state c.in_ok-id.id c.args.old c.args.bound) (next_refusal held) (amended_next held c.in_ok-id.id c.args.old c.args.bound c.state.ensures.sound left unknown known) c.in_err-amend.field-0.0 c.in_err-amend.ensures.fault;
      kept = λ i. record held { state = c.in_err-amend.ensures.kept i };
    })

pub invariant_of-self-2 : goal.invariant_of-self-2
invariant_of-self-2 g c =
    let bound_named = subst (λ (h : Held). NamesEvents (events_of h.source) c.args.bound) (sym c.self.view_is) c.requires.named in
    named_added (events_of (rc_value c.self.inside.base)) c.self.inside.records c.amend.new.self c.in_ok-id.id (plain c.args.bound) (ap (λ (s : Content). s.additions) c.in_ok-amend.ensures.amended)
    c.self.invariant bound_named

pub returns : goal.returns
returns g c =
    let held : Held = record { site = c.self.inside.site; source = rc_value c.self.inside.base; state = c.self.inside.records; steps = 0 } in
    let next = rw (← c.self.view_is) at c.in_ok-id.ensures.next in
    let left = rw (← c.self.view_is) at c.in_ok-id.ensures.left in
    let unknown = rw (← c.self.view_is) at c.in_ok-id.ensures.unknown in
    let known = rw (← c.self.view_is) at c.requires.known in
    rw (← c.self.view_is) (record {
      leaves = record { site = refl; source = refl; state = (next, c.in_ok-amend.ensures.amended, c.in_ok-amend.ensures.joined) };
      accepted = let_through (amendment_refusal held.state c.in_ok-id.id c.args.old c.args.bound) (next_refusal held) (amended_next held c.in_ok-id.id c.args.old c.args.bound c.state.ensures.sound left unknown known) c.in_ok-amend.ensures.accepted;
      fault = tt;
      kept = tt;
    })
