use Rattle.std.proofs.Common.{◌∙◌}
use Rattle.stn_records.{specs.Content.{Content, dispute_contents, joined_contents}, proofs.{Lists.same_content, Replaced.kept_by_union}}
use Rattle.stn_records.proofs.state.State.union.Goals as goal

pub invariant_of-result : goal.invariant_of-result
invariant_of-result g c =
    let ours : Content = record { additions = c.self.inside.additions; tombstones = c.self.inside.tombstones; replacements = c.self.inside.replacements } in
    let theirs : Content = record { additions = c.other.inside.additions; tombstones = c.other.inside.tombstones; replacements = c.other.inside.replacements } in
    kept_by_union ours theirs c.self.inside.replaced c.other.inside.replaced c.in_ok-union-2.field-0 c.in_ok-union-4.field-0 c.in_ok-union-3.field-0 c.self.invariant c.other.invariant
    ((λ i. dispute_contents (c.self.view_is i) (c.other.view_is i)) ∙ c.requires) c.in_ok-union-2.ensures c.in_ok-union-3.ensures c.in_ok-union-4.ensures

pub returns : goal.returns
returns g c = same_content _ _ c.in_ok-union.ensures c.in_ok-union-2.ensures c.in_ok-union-3.ensures ∙ (λ i. joined_contents (c.self.view_is i) (c.other.view_is i))
