use Rattle.std.{proofs.Common.{◌↔◌, subst}, specs.Prelude.IsTrue}
use Rattle.stn_records.{specs.Content.{Content, AllAmend}, proofs.Lists.{amends_of_entries, entries_of_amends}}
use Rattle.stn_records.proofs.state.State.all_amend.Goals as goal

pub returns : goal.returns
returns g c =
    let inside : Content = record { additions = c.self.inside.additions; tombstones = c.self.inside.tombstones; replacements = c.self.inside.replacements } in
    subst (λ s. IsTrue c.are_amendments.result ↔ AllAmend s) c.self.view_is (
      λ told. amends_of_entries inside c.entries.result.now c.entries.ensures.value (c.are_amendments.ensures.0 told),
      λ amends. c.are_amendments.ensures.1 (entries_of_amends inside c.entries.result.now c.entries.ensures.value amends),
    )
