use Rattle.std.proofs.{Common.{ap, ◌∙◌}}
use Rattle.std.specs.FinMap as fin
use Rattle.stn_records.{specs.Content.{Content}, proofs.{Replaced.kept_by_amendment}}
use Rattle.stn_records.proofs.state.State.amend.Goals as goal

pub invariant_of-self-2 : goal.invariant_of-self-2
invariant_of-self-2 g c =
    kept_by_amendment (record { additions = c.self.inside.additions; tombstones = c.self.inside.tombstones; replacements = c.self.inside.replacements }) c.self.inside.replaced c.in_ok-replaced.replaced c.in_ok-replacements.replacements c.args.id c.args.old c.args.bound c.self.invariant
    (ap (λ (s : Content). fin.get s.replacements c.args.id) c.self.view_is ∙ c.requires.new) c.in_ok-replacements.ensures c.in_ok-replaced.ensures
