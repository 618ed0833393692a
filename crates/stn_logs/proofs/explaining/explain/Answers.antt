use Rattle.std.{proofs.{Common.{◌∙◌, ◌++◌, refl, inr, sym, ap, subst, option_map}, lemmas.Bool.false≢true}, specs.Result.is_err}
use Rattle.stn_line.specs.Explanations.Explained.{IsExplained}
use Rattle.stn_logs.proofs.explaining.explain.Goals as goal

pub returns : goal.returns
returns g c =
    let said = c.in_ok-print_explained.ensures.explained in (
      subst (IsExplained (option_map (λ word. word.now) c.args.code)) (sym (said.2 ∙ ap (λ items. items ++ said.0) c.new-text.ensures.items)) said.1,
      inr ((λ nothing. false≢true (ap is_err (c.in_ok-print_explained.ensures.unknown.1 nothing))), refl),
    )
