use Rattle.stn_site.proofs.site_copy.SitePlanSiteCopy.change.Goals as goal

pub returns : goal.returns
returns g c = c.change.ensures
