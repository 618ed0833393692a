use Rattle.stn_site.specs.Report.{IsReport}
use Rattle.stn_world.specs.Steps.{TookSameAt}
use Rattle.stn_laws.{specs.Reports.ReportsSite, proofs.scripts.Reports.{script_run, world_run, prints, reports, unions, print_same}}
use Rattle.stn_laws.proofs.scripts.scripts_are_runs.Goals as goal

pub returns-clause-end : goal.returns-clause-end
returns-clause-end c = script_run

pub returns-clause-world : goal.returns-clause-world
returns-clause-world c = world_run

pub returns-clause-output : goal.returns-clause-output
returns-clause-output c = prints

pub returns-clause-report : goal.returns-clause-report
returns-clause-report c = reports

pub returns-clause-union : goal.returns-clause-union
returns-clause-union c = unions c.sites_are_unions.ensures

pub returns-clause-bytes : goal.returns-clause-bytes
returns-clause-bytes c =
    print_same (λ _ at site. ReportsSite at site) TookSameAt IsReport (λ script at site says. says.there) reports
    (λ source sites others ours theirs site other here there took. (c.sites_took_same_same_bytes.ensures.bytes source sites others ours theirs site other here there took).1)
