use Rattle.std.proofs.{Common.{◌≡◌, ◌<◌, true, length, refl, sym, ◌∙◌, arith}, lemmas.{List.get_or_read, Bool.false≢true}}
use Rattle.stn_conflict.{specs.Relaxation.Lowers, proofs.{Lowering.{all_swept, lowers_on, row_relaxed, swept_more, swept_over, turn_of}, relaxation.Search.sweep.Goals.{then-onward, else-onward, then-index+in_ok-relax_from, else-index}}}
use Rattle.stn_conflict.proofs.relaxation.Search.sweep.Goals as goal

pub loop-index-preserved : goal.loop-index-preserved
loop-index-preserved g c =
    let h = c.loop-index.invariant in
    let bounds = c.args.graph.now.bounds in
    let start = c.args.self.now.start in
    let old = c.args.self.now.far.items in
    let mid = c.loop-index.self.far.items in
    let fresh = c.loop-index.self.fresh.items in
    let count = c.count-count.result in
    let index = c.loop-index.index in
    let event = c.if-onward.event in
    let turn : event ≡ turn_of c.args.onward count index = elim c.if-onward.branch [
      | then-onward w ↦ rw w.if-onward.true w.event-is
      | else-onward w ↦ rw w.if-onward.false w.event-is
    ] in
    let within : event < count = elim c.if-onward.branch [
      | then-onward w ↦ omega (arith, w.event-is, c.loop-index-test.true)
      | else-onward w ↦ omega (arith, w.event-is, c.loop-index-test.true)
    ] in
    let there : event < length fresh = omega (arith, within, c.count-count.ensures, h.begun.tables.fresh) in
    elim c.if-index.branch [
      | then-index+in_ok-relax_from w ↦
          let new = w.relax_from.new.self in
          let far = w.relax_from.new.self.far.items in
          let e = w.relax_from.ensures.relaxes in
          let ok = w.in_ok-relax_from.ensures.relaxes in
          let step : Lowers bounds start mid far = rw h.start at e.lowers in
          rw w.self-is (record {
            begun = rw w.relax_from.ensures.start e.begun;
            start = w.relax_from.ensures.start ∙ h.start;
            sweeps = w.relax_from.ensures.sweeps ∙ h.sweeps;
            lowers = lowers_on bounds start old mid far h.lowers step;
            relaxed = row_relaxed c.args.graph.now.whole fresh h.relaxed step e.freshens ok.relaxed;
            swept = swept_more c.args.onward count fresh turn there h.lowers step e.freshens h.swept;
          })
      | else-index w ↦
          let stale = sym (get_or_read fresh event _ there c.index.ensures true) ∙ w.if-index.false in
          rw w.self-is (record {
            begun = h.begun;
            start = h.start;
            sweeps = h.sweeps;
            lowers = h.lowers;
            relaxed = h.relaxed;
            swept = swept_over c.args.onward count old mid fresh turn stale h.swept;
          })
    ]

pub returns : goal.returns
returns g c =
    let h = c.loop-index.invariant in
    let far = c.loop-index.self.far.items in
    let fresh = c.loop-index.self.fresh.items in
    let count = c.count-count.result in
    let all : c.loop-index.index ≡ count = omega (arith, c.loop-index.auto.index-end, c.loop-index-test.false) in
    record {
      begun = h.begun;
      start = h.start;
      sweeps = h.sweeps;
      lowers = h.lowers;
      refused = λ e. absurd (false≢true e);
      relaxed = h.relaxed;
      stale = λ x below same. all_swept c.args.onward c.args.self.now.far.items far fresh
          (rw all at h.swept) (omega (arith, c.count-count.ensures)) same;
    }

pub returns-in_err-relax_from-clause-lowers : goal.returns-in_err-relax_from-clause-lowers
returns-in_err-relax_from-clause-lowers g c =
    let bounds = c.args.graph.now.bounds in
    let mid = c.loop-index.self.far.items in
    let far = c.relax_from.new.self.far.items in
    lowers_on bounds c.args.self.now.start c.args.self.now.far.items mid far c.loop-index.invariant.lowers
    (rw c.loop-index.invariant.start at c.relax_from.ensures.relaxes.lowers)

pub returns-in_err-relax_from-clause-refused : goal.returns-in_err-relax_from-clause-refused
returns-in_err-relax_from-clause-refused g c = λ e low floor.
    let start = c.loop-index.invariant.start in
    c.in_err-relax_from.ensures.relaxes.refused refl low
    (rw start (c.loop-index.invariant.lowers.floors low floor))
