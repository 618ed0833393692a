use Rattle.std.{proofs.{Common.{◌≡◌, rules, ℕ, List, Option, None, ◌+◌, length, get_or, replicate, ap, ◌∙◌}, lemmas.List.with_items_is}, specs.Vec.with_items}
use Rattle.stn_chart.proofs.Noting.{noted_all}
use Rattle.stn_chart.proofs.holders.holders_in.Goals as goal

pub returns : goal.returns
returns g c =
    let windows = c.args.windows.now in
    let first = c.note_holders.new.holders in
    let last = c.note_holders-2.new.holders in
    let again : c.deref_mut-2.result.now ≡ first = c.deref_mut-2.ensures.value ∙ with_items_is c.in_ok-holders.holders first (c.note_holders.ensures.one_each ∙ c.deref_mut.ensures.len) in
    let fresh : c.deref_mut.result.now ≡ replicate (c.args.steps + 1) None =
    c.deref_mut.ensures.value ∙ c.in_ok-holders.ensures.items_if_clones_equal (search rules) ∙ ap (λ n. replicate (n + 1) None) c.from.ensures in
    with_items_is (with_items c.in_ok-holders.holders first) last (c.note_holders-2.ensures.one_each ∙ c.deref_mut-2.ensures.len)
    ∙ noted_all windows c.args.base.now c.args.others.now c.args.steps c.deref_mut.result.now c.deref_mut-2.result.now last fresh
    (ap length again ∙ c.note_holders.ensures.one_each) c.note_holders-2.ensures.one_each
    (λ step within. ap (λ (xs : List (Option ℕ)). get_or xs step None) again ∙ c.note_holders.ensures.first step within) c.note_holders-2.ensures.first
