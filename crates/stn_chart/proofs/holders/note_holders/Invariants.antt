use Rattle.std.{proofs.Common.{◌≡◌, ◌<◌, ℕ, None, length, take, get_or}, specs.Option.option_or}
use Rattle.stn_chart.specs.Chart.{holder_in}
use Rattle.stn_chart.proofs.holders.note_holders.Given as goal

abbrev pub invariant-loop-bound : goal.invariant-loop-bound
invariant-loop-bound l = record {
  one_each : length l.holders ≡ length l.initial.holders;
  first : (step : ℕ) → step < length l.initial.holders → get_or l.holders step None
      ≡ option_or (get_or l.initial.holders step None) (holder_in l.windows step (take l.bound-index l.bounds));
}
