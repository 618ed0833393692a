use Rattle.std.{proofs.{lemmas.Grind.common_steps, Common.{arith, refl, sym, subst}}, specs.Rc.rc_value}
use Rattle.stn_net.specs.Difference.{NamesEvents}
use Rattle.stn_lift.specs.PlanSource.{events_of}
use Rattle.stn_records.specs.{declared.record.Record.Record, Content.with_record, Refusals.addition_refusal}
use Rattle.stn_site.{specs.{Held.Held, Refusals.next_refusal}, proofs.{Named.named_added, Refused.{told, let_through, next_added}}}
use Rattle.stn_site.proofs.site_plan.SitePlan.hold.Goals as goal

pub invariant_of-self-2 : goal.invariant_of-self-2
invariant_of-self-2 g c =
    let named = subst (λ (h : Held). NamesEvents (events_of h.source) c.args.bound) (sym c.self.view_is) c.requires.named in
    let one : Record = record { mark = c.args.mark; bound = c.args.bound } in
    rw c.in_ok-add.ensures.added
    (named_added (events_of (rc_value c.self.inside.base)) c.self.inside.records (with_record c.self.inside.records c.in_ok-id.id one) c.in_ok-id.id one refl c.self.invariant named)

pub returns-in_err-add : goal.returns-in_err-add
returns-in_err-add g c = grind (arith, common_steps, told, next_added)

pub returns : goal.returns
returns g c =
    let held : Held = record { site = c.self.inside.site; source = rc_value c.self.inside.base; state = c.self.inside.records; steps = 0 } in
    let next = rw (← c.self.view_is) at c.in_ok-id.ensures.next in
    let left = rw (← c.self.view_is) at c.in_ok-id.ensures.left in
    let unknown = rw (← c.self.view_is) at c.in_ok-id.ensures.unknown in
    let one : Record = record { mark = c.args.mark; bound = c.args.bound } in
    rw (← c.self.view_is) (record {
      leaves = record { site = refl; source = refl; state = (next, c.in_ok-add.ensures.added) };
      accepted = let_through (addition_refusal held.state c.in_ok-id.id one) (next_refusal held) (next_added held one c.in_ok-id.id left unknown) c.in_ok-add.ensures.accepted;
      fault = tt;
      kept = tt;
    })
