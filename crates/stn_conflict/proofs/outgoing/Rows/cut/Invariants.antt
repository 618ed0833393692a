use Rattle.std.proofs.Common.{◌≡◌, ℕ, ◌<◌, ◌≤◌, length}
use Rattle.stn_conflict.{specs.Relaxation.row_of, proofs.Rows.AreCut}
use Rattle.stn_conflict.proofs.outgoing.Rows.cut.Given as goal

abbrev pub invariant-loop-event : goal.invariant-loop-event
invariant-loop-event g l = record {
  turned : l.self.direction ≡ l.initial.self.direction;
  chosen : l.self.whole ≡ l.initial.self.whole;
  long : length l.self.outgoing.items ≡ length l.initial.self.outgoing.items;
  added : l.self.added ≡ l.initial.self.added;
  cut : (x : ℕ) → x < l.event → AreCut (row_of l.initial.self.outgoing.items x) l.place (row_of l.self.outgoing.items x);
  rest : (x : ℕ) → l.event ≤ x → row_of l.self.outgoing.items x ≡ row_of l.initial.self.outgoing.items x;
}
