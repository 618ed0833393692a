use Rattle.std.proofs.{Common.{◌≡◌, true, Some, sym, ◌∙◌}, lemmas.Bool.cond-true}
use Rattle.stn_reasons.specs.Reasons.{refuses_domain}
use Rattle.stn_reasons.proofs.file.refused_text.Goals as goal

pub returns-then-is_of_domain : goal.returns-then-is_of_domain
returns-then-is_of_domain c =
    let refused : refuses_domain c.args.number ≡ true = sym c.is_of_domain.ensures ∙ c.if-is_of_domain.true in
    sym (cond-true (refuses_domain c.args.number) (Some c.args.domain.now) _ refused)
