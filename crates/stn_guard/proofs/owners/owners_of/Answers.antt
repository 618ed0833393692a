use Rattle.std.proofs.{Common.{◌≡◌, [], ◌∷◌, ◌++◌, sym, ap, ◌∙◌, arith}, lemmas.List.FromFn.map-range_with_len_more}
use Rattle.stn_site.proofs.Printing.{if_some}
use Rattle.stn_guard.specs.Adding.{owner_by}
use Rattle.stn_guard.proofs.owners.owners_of.Goals as goal

pub loop-number-preserved : goal.loop-number-preserved
loop-number-preserved g c =
    let number = c.loop-number.number in
    let owner = owner_by c.args.site c.args.owned.now in
    let is : c.unwrap-event.result ≡ number = if_some c.new.result c.unwrap-event.result (λ event. event ≡ number) c.unwrap-event.ensures c.new.ensures.value in
    c.in_ok-push.ensures.items
    ∙ (λ i. c.loop-number.invariant i ++ (c.owner_by.ensures ∙ ap owner is) i ∷ [])
    ∙ sym (map-range_with_len_more owner 0 number number (omega arith))
