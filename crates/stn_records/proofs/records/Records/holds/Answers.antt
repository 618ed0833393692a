use Rattle.std.{proofs.Common.{◌↔◌, subst}, specs.Prelude.IsTrue}
use Rattle.stn_records.{specs.Content.{IsPart, IsSound}, proofs.Holding.told_taken}
use Rattle.stn_records.proofs.records.Records.holds.Goals as goal

pub returns-clause-part : goal.returns-clause-part
returns-clause-part g c =
    subst (λ s. IsTrue c.holds.result ↔ IsPart s c.args.self.now) c.other.view_is (subst (λ s. IsTrue c.holds.result ↔ IsPart c.other.inside.state s) c.self.view_is c.holds.ensures)

pub returns-clause-taken : goal.returns-clause-taken
returns-clause-taken g c =
    let told = told_taken c.args.self.now c.args.other.now (subst IsSound c.self.view_is c.self.invariant).limited in
    let part = returns-clause-part g c in
    (λ e. told.0 (part.0 e), λ is. part.1 (told.1 is))
