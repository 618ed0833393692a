use Rattle.std.proofs.{Common.{◌≡◌, ◌∙◌, refl, rules, arith}, lemmas.Grind.common_steps}
use Rattle.stn_conflict.proofs.Walks.{walk_of_start, levels_of_walk}
use Rattle.stn_conflict.proofs.levels.levels_from.Goals as goal

pub loop-place-init : goal.loop-place-init
loop-place-init g c =
    let items = c.in_ok-vec.ensures.items_if_clones_equal (search rules) in
    let place : c.from.result ≡ c.args.start = c.from.ensures ∙ c.number.ensures.value in
    walk_of_start c.requires.far.start_named (rw (items, place) refl) (search rules)

pub returns : goal.returns
returns g c =
    let h = c.loop-place.invariant in
    levels_of_walk c.requires.far h.whole h.counted h.steps (omega (arith, c.loop-place-test.false, c.len.ensures))

pub loop-place-smaller : goal.loop-place-smaller
loop-place-smaller g c = grind (arith, common_steps)
