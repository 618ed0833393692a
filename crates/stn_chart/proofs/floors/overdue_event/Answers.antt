use Rattle.std.{proofs.Common.{◌≡◌, ℕ, ◌+◌, ◌-◌, ◌&&◌, Bool, suc, false, not, if◌then◌else◌, slice_index_or, sym, ap, ◌∙◌, arith}, specs.{Prelude.{Some, find, int_lt}, List.range_with_len}}
use Rattle.stn_lift.specs.PlanSource.{events_of}
use Rattle.stn_site.specs.{Report.is_done, Windows.window_at}
use Rattle.stn_chart.{specs.Chart.is_overdue, proofs.Drawing.find_next}
use Rattle.stn_chart.proofs.floors.overdue_event.Goals as goal

pub loop-before-preserved : goal.loop-before-preserved
loop-before-preserved g c =
    let before = c.loop-before.before in
    let state = c.args.plan.now.state in
    let windows = c.args.windows.now in
    let now = c.in_ok-now.now in
    let late : ℕ → Bool = is_overdue state windows now in
    let events = events_of c.args.plan.now.source in
    let count = c.events-before-end.ensures.value ∙ ap events_of c.base.ensures in
    let place : c.from.result + 1 ≡ before + 1 = ap (λ n. n + 1) c.from.ensures in
    let flag : slice_index_or c.done_flags-flags.result (c.from.result + 1) false ≡ is_done state (before + 1) =
    c.done_flags-flags.ensures.done (c.from.result + 1) (omega (arith, place, c.loop-before-test.true, c.events-before-end.ensures.small)) ∙ ap (is_done state) place in
    let test : late (before + 1) ≡ false =
    ap (λ (done : Bool). not done && int_lt (window_at windows (before + 1)).1 now) (sym flag) ∙ sym c.is_overdue.ensures ∙ c.if-is_overdue.false in
    let left : events - before ≡ suc (events - (before + 1)) = omega (arith, count, c.loop-before-test.true) in
    c.loop-before.invariant
    ∙ find_next late (before + 1) (events - before) (events - (before + 1)) left
    ∙ ap (λ (b : Bool). if b then Some (before + 1) else find late (range_with_len (before + 1 + 1) (events - (before + 1)))) test
