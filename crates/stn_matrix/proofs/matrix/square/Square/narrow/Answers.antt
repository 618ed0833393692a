use Rattle.std.proofs.{Common.{◌≡◌, ◌∙◌, ℕ, ◌≤◌, ◌≤ℤ◌, neg_ℤ, refl, sym, subst, arith}, lemmas.Int.ints}
use Rattle.stn_net.{specs.Matrix.{Table.entry, Closed.IsClosed, Way.{shorter, narrower}}, proofs.Closure.{shorter-closed, closed_same, lower_round, narrower-closed}}
use Rattle.stn_matrix.proofs.matrix.square.Square.narrow.Given.{Over}
use Rattle.stn_matrix.proofs.matrix.square.Square.narrow.Goals as goal

pub shorten-requires-clause-round : goal.shorten-requires-clause-round
shorten-requires-clause-round g c = rw (c.from.ensures.value, c.to.ensures.value, c.hi.ensures.value) (omega (arith, ints, c.requires.room.upper))

pub shorten-requires-2-clause-closed : goal.shorten-requires-2-clause-closed
shorten-requires-2-clause-closed g c =
    let old = entry c.args.self.now in
    let b = c.args.bound in
    let same : (x y : ℕ) → x ≤ c.args.self.now.events → y ≤ c.args.self.now.events → entry c.shorten.new.self x y ≡ shorter old b.from b.to b.hi x y =
    λ x y xs ys. let h = c.shorten.ensures.shorter x y xs ys in rw (c.from.ensures.value, c.to.ensures.value, c.hi.ensures.value) at h in
    subst (λ n. IsClosed n (entry c.shorten.new.self)) (sym c.shorten.ensures.events)
    (closed_same c.args.self.now.events (shorter old b.from b.to b.hi) (entry c.shorten.new.self) same
    (shorter-closed c.args.self.now.events old b.from b.to b.hi c.requires.closed c.requires.named.from c.requires.named.to (omega (arith, ints, c.requires.room.upper))))

pub shorten-requires-2-clause-round : goal.shorten-requires-2-clause-round
shorten-requires-2-clause-round g c =
    let old = entry c.args.self.now in
    let b = c.args.bound in
    let h = c.shorten.ensures.shorter b.from b.to c.requires.named.from c.requires.named.to in
    let same : entry c.shorten.new.self b.from b.to ≡ shorter old b.from b.to b.hi b.from b.to = rw (c.from.ensures.value, c.to.ensures.value, c.hi.ensures.value) at h in
    let ordered : b.lo ≤ℤ b.hi = rw c.hi.ensures.value at c.hi.ensures.ordered in
    let round = lower_round c.args.self.now.events old b c.requires.closed.shortest c.requires.named ordered c.requires.room in
    rw (c.from-2.ensures.value, c.to-2.ensures.value, c.neg.ensures, c.lo.ensures.value) (rw same round)

narrowed : (g : Over) (c : goal.After-shorten-2 g) → (x y : ℕ) → x ≤ c.args.self.now.events → y ≤ c.args.self.now.events
    → entry c.shorten-2.new.self x y ≡ narrower (entry c.args.self.now) c.args.bound x y
narrowed g c = λ x y xs ys.
    let old = entry c.args.self.now in
    let new = entry c.shorten.new.self in
    let b = c.args.bound in
    let same : (x y : ℕ) → x ≤ c.args.self.now.events → y ≤ c.args.self.now.events → new x y ≡ shorter old b.from b.to b.hi x y =
    λ x y xs ys. let h = c.shorten.ensures.shorter x y xs ys in rw (c.from.ensures.value, c.to.ensures.value, c.hi.ensures.value) at h in
    let h = c.shorten-2.ensures.shorter x y (omega arith) (omega arith) in
    let last : entry c.shorten-2.new.self x y ≡ shorter new b.to b.from (neg_ℤ b.lo) x y =
    rw (c.from-2.ensures.value, c.to-2.ensures.value, c.neg.ensures, c.lo.ensures.value) at h in
    last ∙ rw (same x y xs ys, same x b.to xs c.requires.named.to, same b.from y c.requires.named.from ys) refl

pub returns-clause-closed : goal.returns-clause-closed
returns-clause-closed g c =
    let ordered : c.args.bound.lo ≤ℤ c.args.bound.hi = rw c.hi.ensures.value at c.hi.ensures.ordered in
    closed_same c.args.self.now.events (narrower (entry c.args.self.now) c.args.bound) (entry c.shorten-2.new.self) (narrowed g c)
    (narrower-closed c.args.self.now.events (entry c.args.self.now) c.args.bound c.requires.closed c.requires.named ordered c.requires.room)

pub returns-clause-narrower : goal.returns-clause-narrower
returns-clause-narrower g c = narrowed g c
