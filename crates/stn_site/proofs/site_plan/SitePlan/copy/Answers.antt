use Rattle.stn_site.proofs.site_plan.SitePlan.copy.Goals as goal

pub invariant_of-result : goal.invariant_of-result
invariant_of-result g c = rw (c.in_ok-copy.ensures, c.in_ok-clone.ensures.cases) c.self.invariant

pub returns : goal.returns
returns g c = rw (c.in_ok-copy.ensures, c.in_ok-clone.ensures.cases) c.self.view_is
