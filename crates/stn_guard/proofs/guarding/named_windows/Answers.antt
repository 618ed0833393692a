use Rattle.std.proofs.Common.{◌≡◌, ◌+◌, ◌-◌, subst, arith, rules}
use Rattle.stn_guard.proofs.Named.{AreNamedTo, named_more, origin_alone}
use Rattle.stn_guard.proofs.guarding.named_windows.Goals as goal

pub loop-number-init : goal.loop-number-init
loop-number-init g c = search (rules, origin_alone)

pub loop-number-preserved : goal.loop-number-preserved
loop-number-preserved g c =
    let bounds = c.args.windows.now.bounds in
    let named = c.args.named.now in
    let number = c.loop-number.number in
    let event : c.unwrap-event.result ≡ c.loop-number.number = search rules in
    let first = c.loop-number.auto.number in
    let next : (c.loop-number.number - 1) + 1 ≡ c.loop-number.number = omega (arith, first) in
    let same : c.unwrap-event.result ≡ (c.loop-number.number - 1) + 1 = omega (arith, first, event) in
    let step = named_more c.loop-number.invariant (rw same at c.window_of.ensures) c.in_ok-keep.ensures in
    subst (λ n. AreNamedTo bounds named n c.keep.new.windows.items) (omega (arith, first)) step

pub returns : goal.returns
returns g c =
    let h = c.loop-number.invariant in
    let all : c.loop-number.number - 1 ≡ c.args.windows.now.events = search rules in
    let done : AreNamedTo c.args.windows.now.bounds c.args.named.now c.args.windows.now.events c.loop-number.found.items =
    subst (λ n. AreNamedTo c.args.windows.now.bounds c.args.named.now n c.loop-number.found.items) all h in
    record { ends = done.ends; true_ends = done.true_ends; found_are = done.found_are }
