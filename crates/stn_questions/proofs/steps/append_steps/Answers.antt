use Rattle.std.proofs.{Common.{rules, ◌≡◌, ◌≤◌, Ok, length, sym, ap, subst, ◌∙◌}}
use Rattle.stn_lift.specs.{Plan.Steps.plan_of, PlanSource.{files, plan_source, IsSoundSource}}
use Rattle.stn_questions.{specs.{Durations.least_of, Steps.{planned_steps, step_lines, steps_text}}, proofs.{Lasting.plan_was_read, Listing.step_lines-same}}
use Rattle.stn_questions.proofs.steps.append_steps.Goals as goal

pub append_planned-requires : goal.append_planned-requires
append_planned-requires g c =
    let is : c.args.base.now ≡ files c.in-Files.field-0.items c.in-Files.plan.items = sym c.source.ensures.source ∙ ap plan_source c.in-Files.is in
    record {
      read = subst (λ text. plan_of text ≡ Ok (planned_steps text)) (sym c.deref.ensures.value)
          (plan_was_read c.in-Files.field-0.items c.in-Files.plan.items (subst IsSoundSource is c.source.ensures.sound).based);
      one_each = subst (λ text. length (planned_steps text) ≤ length c.durations_of.result.now) (sym c.deref.ensures.value)
          (c.durations_of.ensures c.in-Files.field-0.items c.in-Files.plan.items is).one_each;
    }

pub returns-in-Bare : goal.returns-in-Bare
returns-in-Bare g c = search rules

pub returns-in-Files : goal.returns-in-Files
returns-in-Files g c =
    let domain = c.in-Files.field-0.items in
    let plan = c.in-Files.plan.items in
    let least = least_of c.durations_of.result.now in
    let is : c.args.base.now ≡ files domain plan = sym c.source.ensures.source ∙ ap plan_source c.in-Files.is in
    let durations = c.durations_of.ensures domain plan is in
    let lines : step_lines least 0 (planned_steps c.deref.result.now) ≡ steps_text c.args.base.now = search (rules, step_lines-same)
    in
    search rules
