use Rattle.std.{proofs.{Common.{rules, ◌≡◌, ◌+◌, length, refl, ap, sym, ◌∙◌, arith}, lemmas.Int.ints}, specs.Prelude.{pos, ◌<ℤ◌, All}}
use Rattle.stn_net.specs.{Schedule.times_of}
use Rattle.stn_conflict.{specs.Relaxation.{Lowers, NamesAmong}, proofs.{Lowering.{fallen_fresh, lowers_none, lowers_on}, Relaxing.all_met, Sweeps.{above, above_least, above_most, fewer_above, some_highest}, relaxation.Search.relax_until_met.{Given.Over, Goals.{After-sweep, then-self-count-via-then-self-count, then-self-count-via-else-self-count+then-goes_round}}}}
use Rattle.stn_conflict.proofs.relaxation.Search.relax_until_met.Goals as goal

pub loop-event-init : goal.loop-event-init
loop-event-init g c = record {
  begun = c.requires.begun;
  start = refl;
  lowers = lowers_none;
  relaxed = c.requires.relaxed;
  few = omega arith;
  counted = λ x below now top highest.
      let less = above_most (c.args.graph.now.events + 1) c.args.self.now.start top c.args.self.now.far.items c.requires.begun.start_named (omega (arith, ints, c.requires.begun.own, highest.floor.own)) in
      omega (arith, ints);
}

-- the sweep lowers the estimates as one from the same start
next : (g : Over) (c : After-sweep g) → Lowers c.args.graph.now.bounds c.args.self.now.start c.loop-event.self.far.items c.sweep.new.self.far.items
next g c = search rules

pub loop-event-preserved : goal.loop-event-preserved
loop-event-preserved g c =
    let h = c.loop-event.invariant in
    let e = c.sweep.ensures in
    let ok = c.in_ok-sweep.ensures in
    let bounds = c.args.graph.now.bounds in
    let start = c.args.self.now.start in
    let first = c.args.self.now.far.items in
    let mid = c.loop-event.self.far.items in
    let far = c.sweep.new.self.far.items in
    let fresh = c.sweep.new.self.fresh.items in
    let step = next g (goal.at.loop-event-preserved g c).After-sweep in
    let long : length far ≡ c.args.graph.now.events + 1 = e.begun.tables.far in
    let named : All (NamesAmong (length far)) bounds = rw long e.begun.named in
    let own : times_of far start ≡ pos 0 = ap (times_of far) (sym h.start ∙ sym e.start) ∙ e.begun.own in
    let (there, was) = c.in-Some.ensures in
    record {
      begun = e.begun;
      start = e.start ∙ h.start;
      lowers = lowers_on bounds start first mid far h.lowers step;
      relaxed = ok.relaxed;
      few = omega (arith, e.sweeps, c.count.ensures, h.few, c.if-self-count.false);
      counted = λ x below now top highest.
          let fewer = fewer_above c.args.graph.now.whole c.args.graph.now.events bounds start first mid far fresh top e.begun.kept e.begun.network highest h.lowers step named own ok.relaxed
          (λ y within. ok.stale y (omega arith)) (fallen_fresh fresh step (omega arith) (ok.stale x below) now) in
          let less : above (c.args.graph.now.events + 1) top far <ℤ above (c.args.graph.now.events + 1) top mid = rw long at fewer in
          omega (arith, ints, h.counted c.in-Some.event (omega (arith, there, h.begun.tables.fresh)) was top highest, e.sweeps);
    }

pub returns-in_err-sweep-clause-lowers : goal.returns-in_err-sweep-clause-lowers
returns-in_err-sweep-clause-lowers g c =
    lowers_on c.args.graph.now.bounds c.args.self.now.start c.args.self.now.far.items c.loop-event.self.far.items c.sweep.new.self.far.items c.loop-event.invariant.lowers
    (next g (goal.at.returns-in_err-sweep-clause-lowers g c).After-sweep)

pub returns-in_err-sweep-clause-refused : goal.returns-in_err-sweep-clause-refused
returns-in_err-sweep-clause-refused g c = λ e low floor.
    let h = c.loop-event.invariant in
    c.in_err-sweep.ensures.refused refl low (rw h.start (h.lowers.floors low floor))

pub returns-then-self-count-clause-refused : goal.returns-then-self-count-clause-refused
returns-then-self-count-clause-refused g c = λ e low floor.
    let h = c.loop-event.invariant in
    let (there, was) = c.in-Some.ensures in
    elim c.then-self-count.branch [
      | then-self-count-via-then-self-count w ↦
          let all : c.loop-event.self.sweeps ≡ c.args.graph.now.events + 1 = w.if-self-count.true ∙ c.count.ensures in
          some_highest c.args.graph.now.bounds c.args.self.now.start c.args.self.now.far.items low floor
          (λ top highest. omega (arith, ints, h.counted c.in-Some.event (omega (arith, there, h.begun.tables.fresh)) was top highest, all, above_least (c.args.graph.now.events + 1) top c.loop-event.self.far.items))
      | then-self-count-via-else-self-count+then-goes_round w ↦ w.goes_round.ensures w.if-goes_round.true low floor.met
    ]

pub returns-clause-met : goal.returns-clause-met
returns-clause-met g c =
    let h = c.loop-event.invariant in
    let b = h.begun in
    all_met c.loop-event.self.far.items c.loop-event.self.fresh.items b.kept b.network b.named h.relaxed
    (λ x below. c.in_default.ensures x (omega (arith, b.tables.fresh)))
