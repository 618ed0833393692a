use Rattle.std.proofs.{Common.{ℤ, subst, w64, SFits, rules}, lemmas.Int.to_z-of_z}
use Rattle.stn_time.{specs.Time.IsWithinHorizon, proofs.Prints.{spells-printed, time_of-printed}}
use Rattle.stn_time.proofs.millis.Ms.print.Goals as goal

pub returns-clause-spells : goal.returns-clause-spells
returns-clause-spells g c = spells-printed c.args.self

pub returns-clause-reads : goal.returns-clause-reads
returns-clause-reads g c = time_of-printed c.args.self (subst (λ (n : ℤ). IsWithinHorizon n) c.get.ensures.value c.get.ensures.within)

pub returns-clause-ok : goal.returns-clause-ok
returns-clause-ok g c =
    let fits : SFits w64 c.get.result = search rules in
    rw (to_z-of_z w64 c.get.result fits, c.get.ensures.value) at c.print_millis.ensures.ok
