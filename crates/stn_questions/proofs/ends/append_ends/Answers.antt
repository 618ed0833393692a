use Rattle.std.proofs.{Common.{◌≡◌, ◌++◌, neg_ℤ, ap, append_assoc, ◌∙◌, arith}, lemmas.{Result.on_ok_weaker, Grind.common_steps}}
use Rattle.stn_lift.specs.PlanSource.{base_bounds}
use Rattle.stn_questions.{specs.Why.end_text, proofs.Reasons.end_in_lines}
use Rattle.stn_questions.proofs.ends.append_ends.Goals as goal

pub append_link_lines-requires-clause-there : goal.append_link_lines-requires-clause-there
append_link_lines-requires-clause-there g c = grind (arith, common_steps)

pub append_link_lines-requires-2-clause-there : goal.append_link_lines-requires-2-clause-there
append_link_lines-requires-2-clause-there g c = grind (arith, common_steps)

pub returns : goal.returns
returns g c =
    let source = c.args.plan.now.source in
    let state = c.args.plan.now.state in
    let ends = c.args.ends.now in
    let old = c.args.out.now.items in
    let own : c.bounds-base.result.now ≡ base_bounds source = c.bounds-base.ensures.value ∙ ap base_bounds c.base.ensures in
    let first : c.append_link_lines.new.out.items ≡ old ++ end_text source state c.args.least_word.now (neg_ℤ ends.onward.sum) ends.onward.links.items =
    end_in_lines source state c.args.least_word.now c.times_of-least.result.0 (neg_ℤ ends.onward.sum) c.bounds-base.result.now c.deref-2.result.now c.deref.result.now c.deref-3.result.now ends.onward.links.items
    old c.append_time.new.out.items c.append_link_lines.new.out.items own (c.deref.ensures.value ∙ c.in_ok-ids.ensures) (c.deref-2.ensures.value ∙ c.in_ok-others.ensures.value)
    c.times_of-least.ensures.0 c.deref-3.ensures.value c.in_ok-append_time.ensures c.in_ok-append_link_lines.ensures.text in
    on_ok_weaker c.append_link_lines-2.result
    (λ last.
    end_in_lines source state c.args.greatest_word.now c.times_of-least.result.1 ends.back.sum c.bounds-base.result.now c.deref-5.result.now c.deref-4.result.now c.deref-6.result.now ends.back.links.items
    c.append_link_lines.new.out.items c.append_time-2.new.out.items c.append_link_lines-2.new.out.items own (c.deref-4.ensures.value ∙ c.in_ok-ids.ensures) (c.deref-5.ensures.value ∙ c.in_ok-others.ensures.value)
    c.times_of-least.ensures.1 c.deref-6.ensures.value c.in_ok-append_time-2.ensures last
    ∙ (λ i. first i ++ end_text source state c.args.greatest_word.now ends.back.sum ends.back.links.items)
    ∙ append_assoc old _ _) c.append_link_lines-2.ensures.text

pub append_link_lines-requires-2-clause-one_each : goal.append_link_lines-requires-2-clause-one_each
append_link_lines-requires-2-clause-one_each g c = grind (arith, common_steps)

pub append_link_lines-requires-clause-one_each : goal.append_link_lines-requires-clause-one_each
append_link_lines-requires-clause-one_each g c = grind (arith, common_steps)
