use Rattle.std.{proofs.Common.{ℕ, ◌<◌, ◌==◌, if◌then◌else◌, Option, None, length, get_or, ap, ◌∙◌, arith}, specs.Option.option_or}
use Rattle.stn_chart.{specs.Chart.{start_of, held_by}, proofs.Noting.{noted_bound, noted_more}}
use Rattle.stn_chart.proofs.holders.note_holders.Goals as goal

pub loop-bound-preserved : goal.loop-bound-preserved
loop-bound-preserved c =
    let many = c.note_holder.ensures.one_each in
    record {
      one_each = c.note_holder-in-loop-bound.ensures.one_each ∙ many ∙ c.loop-bound.invariant.one_each;
      first = λ step within.
          let windows = c.args.windows.now in
          let bound = c.bound-item.result in
          let here : step < length c.loop-bound.holders = omega (arith, within, c.loop-bound.invariant.one_each) in
          let held : Option ℕ → Option ℕ = λ old. option_or old (held_by windows step bound) in
          let old = get_or c.loop-bound.holders step None in
          let middle = get_or c.note_holder.new.holders step None in
          let begins = c.note_holder.ensures.noted step here
          ∙ ap (λ (event : ℕ). if event == start_of step then held old else old) (c.number.ensures.value ∙ c.from.ensures.value) in
          let ends = c.note_holder-in-loop-bound.ensures.noted step (omega (arith, here, many))
          ∙ ap (λ (event : ℕ). if event == start_of step then held middle else middle) (c.number-in-loop-bound.ensures.value ∙ c.to.ensures.value) in
          noted_more windows step c.args.bounds.now c.loop-bound.bound-index bound (get_or c.args.holders.now step None) old _ c.loop-bound-test.true c.bound-item.is
          (c.loop-bound.invariant.first step within) (noted_bound windows step bound old middle _ begins ends);
    }
