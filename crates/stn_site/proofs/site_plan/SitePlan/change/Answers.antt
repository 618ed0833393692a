use Rattle.stn_site.proofs.site_plan.SitePlan.change.Goals as goal

pub returns-in-Amend-clause-leaves : goal.returns-in-Amend-clause-leaves
returns-in-Amend-clause-leaves g c = rw (c.in-Amend.is, ← c.bound-in-Amend.view_is) c.amend.ensures.leaves

pub returns-in-Amend-clause-accepted : goal.returns-in-Amend-clause-accepted
returns-in-Amend-clause-accepted g c = rw (c.in-Amend.is, ← c.bound-in-Amend.view_is) c.amend.ensures.accepted

pub returns-in-Amend-clause-fault : goal.returns-in-Amend-clause-fault
returns-in-Amend-clause-fault g c = rw (c.in-Amend.is, ← c.bound-in-Amend.view_is) c.amend.ensures.fault
