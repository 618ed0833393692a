use Rattle.std.{proofs.Common.{◌≡◌, ℕ, ◌<◌}, specs.Prelude.slice_index_or}
use Rattle.stn_conflict.specs.{declared.outgoing.Look.Look, Relaxation.{AreBegun, Freshens, IsRelaxedOf, Lowers}}
use Rattle.stn_conflict.proofs.relaxation.relax_row.Given as goal

abbrev pub invariant-loop-look : goal.invariant-loop-look
invariant-loop-look g l = record {
  begun : AreBegun l.graph l.start l.far l.by l.fresh;
  lowers : Lowers l.graph.bounds l.start l.fn.far l.far;
  freshens : Freshens l.fn.far l.fn.fresh l.far l.fresh;
  relaxed : (k : ℕ) (look : Look) → k < l.look-index → slice_index_or l.look-items k look ≡ look → IsRelaxedOf l.graph.bounds l.far l.fresh look.link;
}
