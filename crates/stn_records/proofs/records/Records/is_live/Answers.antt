use Rattle.std.proofs.Common.{ap, sym, not, ◌∙◌, ◌&&◌}
use Rattle.std.specs.FinMap as fin
use Rattle.stn_records.specs.Content.{Content, is_replaced}
use Rattle.stn_records.proofs.records.Records.is_live.Goals as goal

pub returns-then-contains : goal.returns-then-contains
returns-then-contains g c =
    let added = c.contains.ensures ∙ ap (λ m. fin.contains_key m c.args.id) c.additions.ensures ∙ ap (λ (s : Content). fin.contains_key s.additions c.args.id) c.self.view_is in
    ap not c.is_replaced.ensures ∙ ap (λ b. b && not (is_replaced c.args.self.now c.args.id)) (sym c.if-contains.true ∙ added)
