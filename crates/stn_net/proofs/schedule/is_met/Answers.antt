use Rattle.std.{proofs.{Common.{◌≡◌, ◌∙◌, arith, refl}, lemmas.{Int.ints, List.get_or_read}}, specs.Prelude.pos}
use Rattle.stn_net.specs.Schedule.{times_of}
use Rattle.stn_net.proofs.schedule.is_met.Goals as goal

pub returns-then-at_most : goal.returns-then-at_most
returns-then-at_most c =
    let times = c.args.times.now in
    let from = c.from-2.ensures ∙ c.number.ensures.value ∙ c.from.ensures.value in
    let to = c.from-3.ensures ∙ c.number-2.ensures.value ∙ c.to.ensures.value in
    let start : c.index-times-from.result ≡ times_of times c.args.bound.now.from = rw from at (get_or_read times c.from-2.result _ (rw from c.requires.from) c.index-times-from.is (pos 0)) in
    let end : c.index-times-from-2.result ≡ times_of times c.args.bound.now.to = rw to at (get_or_read times c.from-3.result _ (rw to c.requires.to) c.index-times-from-2.is (pos 0)) in
    let difference = c.difference_of-difference.ensures in (
      λ yes. (omega (arith, ints, start, end, c.lo.ensures.value, c.if-at_most.ensures.0 refl), omega (arith, ints, start, end, c.hi.ensures.value, c.at_least.ensures.0 yes)),
      λ met. c.at_least.ensures.1 (omega (arith, ints, start, end, c.hi.ensures.value)),
    )
