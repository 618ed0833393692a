use Rattle.std.proofs.Common.{◌≡◌, ◌≢◌, ℕ, ◌+◌, ◌*◌, ◌≤◌, ◌-◌, length}
use Rattle.stn_net.specs.Matrix.Table.{entry, entry_in}
use Rattle.stn_matrix.proofs.Entries.{AreShortened}
use Rattle.stn_matrix.proofs.matrix.square.Square.shorten_row.Given as goal

abbrev pub invariant-loop-place : goal.invariant-loop-place
invariant-loop-place g l =
    let far = entry l.fn.self in
    let width = l.fn.self.events + 1 in
    record {
      within : l.place ≤ length l.runs.columns.now;
      so_far : AreShortened width (far l.row) (λ y. entry_in l.entries (l.row * width + y)) (far l.by) l.through l.runs.columns.now l.place;
      others : (x y : ℕ) → x ≤ l.fn.self.events → y ≤ l.fn.self.events → x ≢ l.row → entry_in l.entries (x * width + y) ≡ far x y;
    }

abbrev pub decreases-loop-place : goal.decreases-loop-place
decreases-loop-place g l = length l.runs.columns.now - l.place
