use Rattle.std.proofs.{Common.{◌≡◌, ◌++◌, ap, ◌∙◌, arith}, lemmas.{Result.IfOk-weaker, Grind.common_steps}}
use Rattle.stn_conflict.proofs.{Relaxing.network_of, SoonestTimes.found_soonest}
use Rattle.stn_conflict.proofs.times.soonest.Goals as goal

pub returns : goal.returns
returns g c =
    let (floors, added, are, named) = c.in_ok-append_floors.ensures in
    let above : c.deref.result.now ≡ c.args.extra.now ++ floors = c.deref.ensures.value ∙ added ∙ ap (λ xs. xs ++ floors) c.in_ok-above.ensures.items in
    let network = network_of c.args.base.now c.args.extra.now c.requires.begins c.requires.base_named c.requires.extra_named in
    IfOk-weaker c.earliest.result _ _ (λ found. found_soonest c.args.base.now c.args.extra.now floors c.args.events c.args.done.now c.args.now network c.requires.one_each named are found)
    (rw above at c.earliest.ensures)

pub earliest-requires-clause-extra_named : goal.earliest-requires-clause-extra_named
earliest-requires-clause-extra_named g c = grind (arith, common_steps)
