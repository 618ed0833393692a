use Rattle.std.proofs.Common.{◌++◌, ◌∙◌, sym, ap, subst}
use Rattle.stn_line.specs.Explanations.Explained.{IsMeaning}
use Rattle.stn_line.proofs.explanations.printing.line_of.Goals as goal

pub returns : goal.returns
returns g c =
    let said = c.in_ok-append_meaning.ensures in
    subst (IsMeaning c.args.entry.now.subject) (sym (said.2 ∙ ap (λ items. items ++ said.0) c.new-text.ensures.items)) said.1
