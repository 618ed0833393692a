use Rattle.std.proofs.{Common.{rules, sym, ◌∙◌, arith}, lemmas.{Grind.common_steps, List.length-map, Map.Made.distinct_count-le}}
use Rattle.stn_records.proofs.Counts.{one_counted, none_left}
use Rattle.stn_records.proofs.sorted.count_ids.Goals as goal

pub overflow_add-count : goal.overflow_add-count
overflow_add-count g c = grind (arith, common_steps, distinct_count-le, length-map)

-- one id is passed
pub loop-id-smaller : goal.loop-id-smaller
loop-id-smaller g c = search (rules, one_counted)

pub loop-id-preserved : goal.loop-id-preserved
loop-id-preserved g c = search (rules, one_counted)

pub returns : goal.returns
returns g c =
    let none = none_left c.loop-id.rest_a.now c.loop-id.rest_b.now c.loop-id.rest_c.now c.loop-id.rest_d.now (sym c.least_first.ensures ∙ c.in_default.is) in
    let so_far = c.loop-id.invariant.counted in
    omega (arith, none, so_far)
