use Rattle.std.proofs.Common.{rules, ◌≡◌, ◌∙◌}
use Rattle.stn_records.{specs.Content.live_of, proofs.Live.live_sorted}
use Rattle.stn_replica.{specs.Walk.from_next, proofs.Rising.{next_taken, risen_are}}
use Rattle.stn_replica.proofs.risen.Risen.between.Goals as goal

pub invariant_of-result : goal.invariant_of-result
invariant_of-result g c = search (rules, live_sorted)

pub returns : goal.returns
returns g c =
    let before : from_next c.next-next_before.result c.next-next_before.new.self ≡ live_of c.args.before.now = next_taken _ _ c.next-next_before.ensures.steps ∙ c.live_records-were.ensures.live in
    search (rules, risen_are)
