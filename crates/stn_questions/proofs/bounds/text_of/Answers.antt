use Rattle.std.{proofs.{Common.{◌≡◌, ◌+◌, ◌++◌, ◌∙◌, length, ap, sym, length-append, arith}, lemmas.Grind.common_steps}, specs.List.{flat_map, range_with_len}}
use Rattle.stn_lift.specs.PlanSource.{base_bounds}
use Rattle.stn_site.specs.{Bounds.live_bounds, Names.live_ids}
use Rattle.stn_questions.specs.Bounds.{listed_line}
use Rattle.stn_questions.proofs.bounds.text_of.Goals as goal

pub returns : goal.returns
returns g c =
    let source = c.args.plan.now.source in
    let state = c.args.plan.now.state in
    let base : c.bounds.result.now ≡ base_bounds source = c.bounds.ensures.value ∙ ap base_bounds c.base.ensures in
    let ids : c.deref.result.now ≡ live_ids state = c.deref.ensures.value ∙ c.in_ok-ids.ensures in
    let others : c.deref-2.result.now ≡ live_bounds state = c.deref-2.ensures.value ∙ c.in_ok-others.ensures.value in
    c.in_ok-append_lines.ensures
    ∙ (λ i. c.new-text.ensures.items i ++ flat_map (listed_line (base i) (ids i) (others i)) (range_with_len 0 (length (base i) + length (others i))))
    ∙ ap (λ count. flat_map (listed_line (base_bounds source) (live_ids state) (live_bounds state)) (range_with_len 0 count)) (sym (length-append (base_bounds source) (live_bounds state)))

pub append_lines-requires-clause-one_each : goal.append_lines-requires-clause-one_each
append_lines-requires-clause-one_each g c = grind (arith, common_steps)
