use Rattle.std.proofs.{Common.{◌≡◌, ◌≤◌, ◌+◌, inr, refl, sym, ap, ◌∙◌, arith}, lemmas.Result.err_from_is_err_and}
use Rattle.stn_lift.specs.PlanSource.{PlanSource}
use Rattle.stn_text.specs.Lines.{lines_of}
use Rattle.stn_world.specs.World.{opening_world}
use Rattle.stn_exec.{specs.{Heading.{seen_found, seen_base}}, proofs.Scripts.{heading-ended, heading-fault, heading-unopened, heading-made, sites_of-some}}
use Rattle.stn_exec.proofs.heading.open.Goals as goal

pub returns-in_err-found-clause-refused : goal.returns-in_err-found-clause-refused
returns-in_err-found-clause-refused g c =
    let returned = err_from_is_err_and c.from_residual-in_err-found.result c.from_residual-in_err-found.ensures.1 in
    rw (returned.1, returned.2) (inr (heading-ended c.args.last (lines_of c.args.script.now) (seen_base c.in_ok-base.base c.in_ok-base.behind) c.in_err-found.field-0.0
    c.in_ok-base.ensures.read (sym c.in_err-found.ensures.found)))

pub returns-in_err-sites-clause-refused : goal.returns-in_err-sites-clause-refused
returns-in_err-sites-clause-refused g c =
    let returned = err_from_is_err_and c.from_residual-in_err-sites.result c.from_residual-in_err-sites.ensures.1 in
    rw (returned.1, returned.2) (inr (heading-fault c.args.last (lines_of c.args.script.now) (seen_base c.in_ok-base.base c.in_ok-base.behind) (seen_found c.in_ok-found.found)
    c.in_ok-base.ensures.read (sym c.in_ok-found.ensures.found) c.in_err-sites.field-0.0 (sym c.in_err-sites.ensures)))

pub returns-clause-opened : goal.returns-clause-opened
returns-clause-opened g c =
    let sites = c.in_ok-sites.sites in
    let found = c.in_ok-found.found in
    let least : 1 ≤ sites = omega (arith, c.in_ok-world.ensures.accepted.least, c.saturated.ensures) in
    let most : sites ≤ 64 = omega (arith, c.in_ok-world.ensures.accepted.most, c.saturated.ensures) in
    let same : c.saturated.result ≡ sites = omega (arith, most, c.saturated.ensures) in
    record {
      start = record { source = c.in_ok-base.base; sites = sites; number = found.number + 1; lines = lines_of found.behind.now };
      read = heading-made c.args.last (lines_of c.args.script.now) (seen_base c.in_ok-base.base c.in_ok-base.behind) (seen_found found) c.in_ok-base.ensures.read (sym c.in_ok-found.ensures.found)
          sites (sym c.in_ok-sites.ensures) (sites_of-some sites least most);
      opening = c.in_ok-world.ensures.opening ∙ (ap (λ (s : PlanSource). opening_world s c.saturated.result) c.in_ok-new.ensures.ok ∙ ap (opening_world c.in_ok-base.base) same);
      number = refl;
      lines = refl;
    }

pub returns-in_err-world-clause-refused : goal.returns-in_err-world-clause-refused
returns-in_err-world-clause-refused g c =
    let returned = err_from_is_err_and c.from_residual-in_err-world.result c.from_residual-in_err-world.ensures.1 in
    rw (returned.1, returned.2) (heading-unopened c.args.last (lines_of c.args.script.now) (seen_base c.in_ok-base.base c.in_ok-base.behind) (seen_found c.in_ok-found.found) c.in_ok-base.ensures.read (sym c.in_ok-found.ensures.found)
    c.in_ok-sites.sites c.saturated.result c.in_err-world.field-0.0 (sym c.in_ok-sites.ensures)
    (λ least most. record { least = omega (arith, least, c.saturated.ensures); most = omega (arith, most, c.saturated.ensures) }) c.in_err-world.ensures.fault)
