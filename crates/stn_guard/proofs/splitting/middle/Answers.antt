use Rattle.std.proofs.{Common.{◌≡◌, ◌-ℤ◌, to_z, of_z, w64, ◌∙◌, arith, rules}, lemmas.Int.ints}
use Rattle.stn_time.specs.Time.{IsWithinHorizon}
use Rattle.stn_guard.proofs.splitting.middle.Goals.{After-split_time-time}
use Rattle.stn_guard.proofs.splitting.middle.Goals as goal

-- the time lies within the horizon, and so does the time `weight` before it
times_within : (c : After-split_time-time) → IsWithinHorizon c.split_time-time.result × IsWithinHorizon (c.split_time-time.result -ℤ c.args.arc.now.weight)
times_within c = omega (arith, ints)

pub unwrap-requires : goal.unwrap-requires
unwrap-requires c =
    let within = times_within (goal.at.unwrap-requires c).After-split_time-time in
    c.new.ensures.within.1 (omega (arith, ints), omega (arith, ints))

pub overflow_sub-time : goal.overflow_sub-time
overflow_sub-time c =
    let within = times_within (goal.at.overflow_sub-time c).After-split_time-time in
    omega (arith, ints)

pub unwrap-requires-2 : goal.unwrap-requires-2
unwrap-requires-2 c =
    let within = times_within (goal.at.unwrap-requires-2 c).After-split_time-time in
    c.new-2.ensures.within.1 (omega (arith, ints), omega (arith, ints))

pub returns-clause-earliest : goal.returns-clause-earliest
returns-clause-earliest c =
    let within = times_within (goal.at.returns-clause-earliest c).After-split_time-time in
    let value : c.unwrap-2.result ≡ to_z w64 (of_z w64 (to_z w64 (of_z w64 c.split_time-time.result) -ℤ to_z w64 (of_z w64 c.get.result))) = search rules in
    let same : c.unwrap-2.result ≡ (c.split_time-time.result -ℤ c.get.result) = omega (arith, ints) in
    same ∙ (λ i. c.split_time-time.ensures.time i -ℤ c.get.ensures.value i)
