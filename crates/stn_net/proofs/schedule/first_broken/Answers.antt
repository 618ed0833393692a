use Rattle.std.proofs.{Common.{rules, refl}, lemmas.List.{take_all, Elements.All-more}}
use Rattle.stn_net.specs.Schedule.{times_of, Meets}
use Rattle.stn_net.proofs.schedule.first_broken.Goals as goal

pub loop-place-preserved : goal.loop-place-preserved
loop-place-preserved c = All-more (Meets (times_of c.args.times.now)) c.args.bounds.now c.loop-place.place c.index-bounds-place.result
    c.loop-place-test.true c.loop-place.invariant
    (let met : Meets (times_of c.args.times.now) c.index-bounds-place.result = c.if-not-is_met.ensures.0 refl in rw (← c.index-bounds-place.is) met)

pub returns-clause-none : goal.returns-clause-none
returns-clause-none c = search (rules, take_all)
