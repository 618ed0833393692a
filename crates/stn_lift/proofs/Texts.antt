-- The base of two texts, from what their readers and the lifting give.
use Rattle.std.{proofs.Common.{rules, ◌≡◌, ℕ, List, Result, Ok, Err, ap, ◌∙◌}}
use Rattle.stn_text.specs.Faults.{Fails}
use Rattle.stn_pddl.specs.{declared.fault.DomainFault.DomainFault, Schemas.ActionSchema, Domains.domain_of}
use Rattle.stn_pddl.specs.Faults as pddl
use Rattle.stn_lift.specs.{declared.{plan.fault.PlanFault.PlanFault, fault.{LiftFault.{LiftFault, TheVariants.Memory}, BaseFault.TheVariants.{Domain, Plan, Lift}}}, Plan.Steps.{PlannedStep, plan_of}, Faults.{of_domain, of_plan, of_lifting}, Activities.{Activity, activities}, PlanSource.{PlanSource, files, of_lift, steps_in, lifted, activities_of, source_with, base_of, is_base_memory}}
use Rattle.stn_lift.specs.declared.plan.fault.PlanFault.TheVariants as plan_fault
use Rattle.stn_lift.specs.Plan.Steps as timed
use Rattle.stn_lift.specs.Activities as lifting

module _ (domain plan : List ℕ) where
  -- a domain without a fault, and a plan without one
  pub lifted-Ok : (actions : List ActionSchema) (steps : List PlannedStep) → domain_of domain ≡ Ok actions → plan_of plan ≡ Ok steps
      → lifted domain plan ≡ of_lift (activities actions 0 steps)
  unfolding lifted
  lifted-Ok actions steps domain_is plan_is = cc

  -- what they do, where no step has a fault
  pub texts_lifted : (actions : List ActionSchema) (steps : List PlannedStep) (found : List Activity) → domain_of domain ≡ Ok actions → plan_of plan ≡ Ok steps
      → activities actions 0 steps ≡ Ok found → activities_of domain plan ≡ found
  unfolding activities_of
  texts_lifted actions steps found domain_is plan_is is = cc (lifted-Ok actions steps domain_is plan_is)

  -- a domain with a fault
  refused_at_domain : (fault : DomainFault) → domain_of domain ≡ Err fault → base_of (files domain plan) ≡ Err (Domain fault)
  unfolding lifted
  refused_at_domain fault is = cc

  pub domain_refused : (fault : DomainFault) → Fails pddl.is_memory fault (domain_of domain) → Fails is_base_memory (of_domain fault) (base_of (files domain plan))
  domain_refused fault h = search (rules, refused_at_domain)

  module _ (actions : List ActionSchema) (domain_is : domain_of domain ≡ Ok actions) where
    -- a plan with a fault
    refused_at_plan : (fault : PlanFault) → plan_of plan ≡ Err fault → base_of (files domain plan) ≡ Err (Plan fault)
    unfolding lifted
    refused_at_plan fault is =
        ap (λ r. source_with (files domain plan) (steps_in r (plan_of plan))) domain_is
        ∙ ap (λ r. source_with (files domain plan) (steps_in (Ok actions) r)) is

    pub plan_refused : (fault : PlanFault) → Fails timed.is_plan_memory fault (plan_of plan) → Fails is_base_memory (of_plan fault) (base_of (files domain plan))
    plan_refused plan_fault.Memory h = tt
    plan_refused fault h = refused_at_plan _ h

    -- a step with a fault
    pub steps_refused : {steps : List PlannedStep} (other : PlanSource) (fault : LiftFault) → plan_of plan ≡ Ok steps
        → Fails lifting.is_lift_memory fault (source_with other (activities actions 0 steps)) → Fails is_base_memory (of_lifting fault) (base_of (files domain plan))
    steps_refused {steps} other fault plan_is h = rw (lifted-Ok actions steps domain_is plan_is) (by fault (activities actions 0 steps) h)
      where
        refused : (fault : LiftFault) (found : Result (List Activity) LiftFault) → source_with other found ≡ Err fault
            → source_with (files domain plan) (of_lift found) ≡ Err (Lift fault)
        refused fault (Ok found) h = cc
        refused fault (Err given) h = cc

        by : (fault : LiftFault) (found : Result (List Activity) LiftFault) → Fails lifting.is_lift_memory fault (source_with other found)
            → Fails is_base_memory (of_lifting fault) (source_with (files domain plan) (of_lift found))
        by Memory found h = tt
        by fault found h = refused _ found h
