use Rattle.stn_site.proofs.site_copy.SitePlanSiteCopy.beside.Goals as goal

pub returns : goal.returns
returns g c = c.beside.ensures
