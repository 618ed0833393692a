use Rattle.stn_site.proofs.site_copy.SitePlanSiteCopy.take.Goals as goal

pub returns : goal.returns
returns g c = c.take.ensures
