use Rattle.std.proofs.Common.{refl}
use Rattle.stn_net.{specs.{Difference.NamesEvents, Matrix.{Table.Table, Tightest.IsExact}}, proofs.Closure.{IsTightened, tightened_implied, tightened_narrower, room_from_schedule}}
use Rattle.stn_matrix.proofs.matrix.Matrix.tighten.{Given.Over, Goals.{then-not-is_implied+else-not-has_room, else-not-is_implied}}
use Rattle.stn_matrix.proofs.matrix.Matrix.tighten.Goals as goal

pub returns-then-not-has_room-clause-possible : goal.returns-then-not-has_room-clause-possible
returns-then-not-has_room-clause-possible g c = λ bounds exact.
    let square = c.self.inside.square in
    let table : Table = record { events = square.events; entries = square.entries; steps = c.self.inside.tightenings } in
    let named : NamesEvents table.events c.args.bound = rw (← c.self.view_is) at c.requires in
    let known : IsExact bounds table = rw (← c.self.view_is) at exact in
    ((λ t. cc), (λ s. let true_is = c.has_room.ensures.1 (room_from_schedule bounds table c.args.bound named known s) in absurd (cc)))

-- the fields after the bound was taken are a table that it tightened
tightened : (g : Over) (c : goal.After-self-1 g) → IsTightened c.args.self.now (record { events = c.if-not-is_implied.self-inside.square.events; entries = c.if-not-is_implied.self-inside.square.entries; steps = c.saturating_add-self-inside.result }) c.args.bound
tightened g c =
    let square = c.self.inside.square in
    let table : Table = record { events = square.events; entries = square.entries; steps = c.self.inside.tightenings } in
    let named : NamesEvents table.events c.args.bound = rw (← c.self.view_is) at c.requires in
    elim c.if-not-is_implied.branch [
      | then-not-is_implied+else-not-has_room w ↦
          (let narrow = w.narrow.ensures in
          rw w.self-inside-is (rw (← c.self.view_is) (tightened_narrower table _ c.args.bound c.self.invariant named narrow.events narrow.closed narrow.narrower)))
      | else-not-is_implied w ↦
          (let implied = c.is_implied.ensures.0 w.if-not-is_implied.false in
          rw w.self-inside-is (rw (← c.self.view_is) (tightened_implied table _ c.args.bound c.self.invariant named implied refl refl)))
    ]

pub invariant_of-self : goal.invariant_of-self
invariant_of-self g c = (tightened g c).closed

pub returns-clause-possible : goal.returns-clause-possible
returns-clause-possible g c = λ bounds exact. let after = (tightened g c).exact bounds exact in ((λ t. after.possible), (λ s. refl))

pub returns-clause-exact : goal.returns-clause-exact
returns-clause-exact g c = λ bounds exact t. (tightened g c).exact bounds exact
