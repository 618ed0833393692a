use Rattle.std.{proofs.Common.{◌≡◌, ◌+◌, ◌-◌, ◌<◌, ◌≤◌, true, ℕ}, specs.Prelude.{ℤ, pos, ◌+ℤ◌, ◌≤ℤ◌}}
use Rattle.stn_conflict.{specs.Relaxation.{IsBegun, IsRelaxedBut, Lowers, is_fresh}, proofs.Sweeps.{IsHighest, above}}
use Rattle.stn_conflict.proofs.relaxation.Search.relax_until_met.Given as goal

abbrev pub invariant-loop-event : goal.invariant-loop-event
invariant-loop-event g l = record {
  begun : IsBegun l.graph l.self;
  start : l.self.start ≡ l.fn.self.start;
  lowers : Lowers l.graph.bounds l.fn.self.start l.fn.self.far.items l.self.far.items;
  relaxed : IsRelaxedBut l.graph.whole l.graph.bounds l.self.far.items l.self.fresh.items;
  few : l.self.sweeps ≤ l.graph.events + 1;
  counted : (x : ℕ) → x < l.graph.events + 1 → is_fresh l.self.fresh.items x ≡ true → (top : ℕ → ℤ) → IsHighest l.graph.bounds l.fn.self.start l.fn.self.far.items top
      → (above (l.graph.events + 1) top l.self.far.items +ℤ pos l.self.sweeps) ≤ℤ pos l.graph.events;
}

abbrev pub decreases-loop-event : goal.decreases-loop-event
decreases-loop-event g l = l.graph.events + 1 - l.self.sweeps
