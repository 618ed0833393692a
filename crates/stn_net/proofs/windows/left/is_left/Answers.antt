use Rattle.std.proofs.{Common.{rules, ◌≡◌, ◌<◌, ℕ, Bool, true, false, not, get_or, IsTrue, ◌↔◌, ap, ◌∙◌, arith}, lemmas.{Bool.Decides.nat_tests, List.get_or_default}}
use Rattle.stn_net.proofs.windows.left.is_left.Goals as goal

-- what the flag at a place says, where it is that of the event
told : (event : ℕ) → 0 < event → (flag of_event : Bool) → flag ≡ of_event → IsTrue (not flag) ↔ ((0 < event) × (of_event ≡ false))
told event later of_event h3 is = search rules

pub returns-then-ne : goal.returns-then-ne
returns-then-ne c =
    let later : 0 < c.args.event = grind (arith, nat_tests, c.origin.ensures, c.ne.ensures, c.if-ne.true) in
    let place : c.from.result ≡ c.args.event = c.from.ensures ∙ c.number.ensures.value in
    told c.args.event later (get_or c.args.done.now c.from.result false) (get_or c.args.done.now c.args.event true)
    (ap (λ n. get_or c.args.done.now n false) place ∙ get_or_default c.args.done.now c.args.event false true c.requires)
