use Rattle.std.{proofs.{Common.{Some, sym, ap, subst, ◌∙◌}}}
use Rattle.stn_records.{specs.{Content.{IsSound, dispute_contents, joined_contents}, ContentLaws.contents_undisputed}, proofs.{FirstCauses.{take_free}, Outcomes.{not_too_much, too_many, taken_is, joined_sound}}}
use Rattle.stn_records.proofs.records.Records.joined.Goals as goal

pub returns-then-is_too_much_with-clause-refused : goal.returns-then-is_too_much_with-clause-refused
returns-then-is_too_much_with-clause-refused g c =
    let none = (λ i. dispute_contents (sym c.self.view_is i) (sym c.other.view_is i)) ∙ sym c.dispute.ensures ∙ c.in_default.is in
    λ _. too_many c.args.self.now c.args.other.now none (c.is_too_much_with.ensures.0 c.if-is_too_much_with.true)

pub invariant_of-result : goal.invariant_of-result
invariant_of-result g c =
    let none = (λ i. dispute_contents (sym c.self.view_is i) (sym c.other.view_is i)) ∙ sym c.dispute.ensures ∙ c.in_default.is in
    joined_sound c.args.self.now c.args.other.now c.in_ok-state.state (subst IsSound c.self.view_is c.self.invariant) (subst IsSound c.other.view_is c.other.invariant) none
    (not_too_much c.args.self.now c.args.other.now c.is_too_much_with.result c.is_too_much_with.ensures c.if-is_too_much_with.false)
    (c.in_ok-state.ensures ∙ (λ i. joined_contents (c.self.view_is i) (c.other.view_is i)))

pub returns : goal.returns
returns g c =
    let none = (λ i. dispute_contents (sym c.self.view_is i) (sym c.other.view_is i)) ∙ sym c.dispute.ensures ∙ c.in_default.is in
    let few = not_too_much c.args.self.now c.args.other.now c.is_too_much_with.result c.is_too_much_with.ensures c.if-is_too_much_with.false in
    let all = c.in_ok-state.ensures ∙ (λ i. joined_contents (c.self.view_is i) (c.other.view_is i)) in
    record {
      joined = contents_undisputed c.args.self.now c.args.other.now none ∙ ap Some (sym all);
      taken = taken_is c.args.self.now c.args.other.now c.in_ok-state.state none few all;
      accepted = take_free c.args.self.now c.args.other.now none few;
      fault = tt;
      refused = tt;
    }
