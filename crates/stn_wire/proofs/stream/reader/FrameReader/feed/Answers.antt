use Rattle.std.proofs.{Common.{◌≡◌, ◌+◌, ◌-◌, None, length, take, drop, refl, sym, ap, subst, ◌∙◌, arith}, lemmas.{List.take_rest, Grind.{common_steps, elements}}}
use Rattle.stn_wire.{specs.{Feeder.CompletesFrame, Stream.Held.Stream}, proofs.Streams.fed_is}
use Rattle.stn_wire.proofs.stream.reader.FrameReader.feed.Goals as goal

pub returns-clause-fed : goal.returns-clause-fed
returns-clause-fed g c =
    let old = c.self.inside in
    let fed = c.in_ok-fed.fed in
    let rest = take (length c.deref.result.now - old.at) (drop old.at c.deref.result.now) in
    let whole : old.feeder.broken ≡ None = ap (λ (s : Stream). s.broken) c.self.view_is ∙ c.requires in
    let taken = subst (λ (s : Stream). CompletesFrame s.held rest fed.used fed.frame c.feed.new.self) c.self.view_is (c.in_ok-fed.ensures.fed whole) in
    fed_is c.args.self.now (record { held = c.feed.new.self.held; behind = drop (old.at + fed.used) old.piece.items; count = old.taken; broken = c.feed.new.self.broken }) old.piece.items old.at fed.used fed.frame rest
    c.feed.new.self (ap (λ (s : Stream). s.behind) (sym c.self.view_is)) (take_rest c.deref.result.now old.at ∙ ap (drop old.at) c.deref.ensures.value) taken refl refl

pub invariant_of-self : goal.invariant_of-self
invariant_of-self g c = grind (arith, common_steps)

pub invariant_of-self-2 : goal.invariant_of-self-2
invariant_of-self-2 g c = grind (arith, common_steps)

pub overflow_add-self : goal.overflow_add-self
overflow_add-self g c = grind (arith, common_steps)

pub returns-in_err-fed-clause-fed : goal.returns-in_err-fed-clause-fed
returns-in_err-fed-clause-fed g c = grind (arith, elements)
