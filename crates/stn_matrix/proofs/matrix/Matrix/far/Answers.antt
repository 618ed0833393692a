use Rattle.std.proofs.{Common.{◌≡◌, arith}, lemmas.Int.ints}
use Rattle.stn_net.{specs.Matrix.{Table.far_of, Closed.IsClosed}, proofs.Closure.closed_within}
use Rattle.stn_matrix.proofs.matrix.Matrix.far.{Given.Over, Goals.After-entry}
use Rattle.stn_matrix.proofs.matrix.Matrix.far.Goals as goal

-- the entry that is read
read : (g : Over) (c : After-entry g) → c.entry.result ≡ far_of c.args.self.now c.args.from c.args.to
read g c = cc

pub unwrap-requires : goal.unwrap-requires
unwrap-requires g c =
    let closed : IsClosed c.args.self.now.events (far_of c.args.self.now) = rw (← c.self.view_is) c.self.invariant in
    let within = closed_within c.args.self.now.events (far_of c.args.self.now) closed c.args.from c.args.to c.requires.from c.requires.to in
    let millis = read g (goal.at.unwrap-requires g c).After-entry in
    c.new.ensures.within.1 (omega (arith, ints), omega (arith, ints))

pub returns-clause-entry : goal.returns-clause-entry
returns-clause-entry g c =
    let millis = rw c.unwrap.ensures at c.new.ensures.value in
    let entry = read g (goal.at.returns-clause-entry g c).After-entry in
    omega (arith, ints)

pub returns-clause-far : goal.returns-clause-far
returns-clause-far g c = λ bounds e. rw (returns-clause-entry g c) (e.far c.args.from c.args.to c.requires.from c.requires.to)
