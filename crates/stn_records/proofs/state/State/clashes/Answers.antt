use Rattle.std.proofs.Common.{Some, ap, sym, ◌∙◌, ◌||◌}
use Rattle.std.specs.FinMap as fin
use Rattle.stn_records.specs.{Content.{Content, plain}, Id.same_ids, Record.same_records, Maps.differ}
use Rattle.stn_records.proofs.state.State.clashes.Goals as goal

pub returns-else-is_another : goal.returns-else-is_another
returns-else-is_another g c =
    let first = c.is_another.ensures ∙ ap (λ o. differ same_records o (Some (plain c.args.bound))) (c.get.ensures ∙ ap (λ (s : Content). fin.get s.additions c.args.id) c.self.view_is) in
    let second = c.is_another-else-is_another.ensures ∙ ap (λ o. differ same_ids o (Some c.args.old)) (c.get-else-is_another.ensures ∙ ap (λ (s : Content). fin.get s.replacements c.args.id) c.self.view_is) in
    second ∙ ap (λ b. b || differ same_ids (fin.get c.args.self.now.replacements c.args.id) (Some c.args.old)) (sym c.if-is_another.false ∙ first)
