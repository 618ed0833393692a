use Rattle.std.{proofs.{Common.{rules, ◌≡◌, inl, inr, ℕ, false, ◌+◌, ◌<◌, refl, subst, ◌∙◌, arith}, lemmas.{Bool.cases_lt, List.{get_or_default, get_or_read}, Result.IfOk-from_err}}, specs.Prelude.{◌≤ℤ◌, slice_index_or}}
use Rattle.stn_net.specs.Schedule.{times_of}
use Rattle.stn_conflict.{specs.{declared.outgoing.Look.Look, Relaxation.{IsLook, IsRelaxedOf, is_fresh}}, proofs.{Lowering.{freshens_on, lowers_on, still_relaxed}, Trying.{begun_on, tried, tried_refused}, relaxation.relax_row.{Given.Over, Goals.After-relax}}}
use Rattle.stn_conflict.proofs.relaxation.relax_row.Goals as goal

-- the next link begins at the event, whose estimate was read before
abbrev Begins : (g : Over) → After-relax g → Type 0
Begins g c = IsLook c.args.graph.now.bounds c.args.event c.look-item.result × (times_of c.loop-look.far c.args.event ≤ℤ c.index-far-event.result)
    × (is_fresh c.loop-look.fresh c.args.event ≡ false → times_of c.loop-look.far c.args.event ≡ c.index-far-event.result)

begins : (g : Over) (c : After-relax g) → Begins g c
begins g c = search (rules, get_or_read)

pub loop-look-preserved : goal.loop-look-preserved
loop-look-preserved g c =
    let h = c.loop-look.invariant in
    let ok = c.in_ok-relax.ensures in
    let bounds = c.args.graph.now.bounds in
    let start = c.args.start in
    let looks = c.row-look-items.result.now in
    let index = c.loop-look.look-index in
    let old = c.loop-look.far in
    let new = c.relax.new.far in
    let fresh = c.relax.new.fresh in
    let (is, most, still) = begins g (goal.at.loop-look-preserved g c).After-relax in
    let t = tried c.args.graph.now start c.args.event c.index-far-event.result c.look-item.result old c.loop-look.by c.loop-look.fresh new fresh h.begun is most still ok.met in
    let relaxed : (k : ℕ) (look : Look) → k < index + 1 → slice_index_or looks k look ≡ look → IsRelaxedOf bounds new fresh look.link = λ k look below at.
    elim (cases_lt k index) [
      | inl before ↦ λ stale. still_relaxed look.link t.lowers t.freshens stale (h.relaxed k look before at)
      | inr past ↦
          let here : k ≡ index = omega arith in
          let same : c.look-item.result ≡ look = c.look-item.is ∙ get_or_default looks index c.look-item.result look c.loop-look-test.true ∙ subst (λ n. slice_index_or looks n look ≡ look) here at in
          rw same at t.relaxed
    ] in
    record {
      begun = begun_on h.begun ok.tables t.own;
      lowers = lowers_on bounds start c.args.far.now old new h.lowers t.lowers;
      freshens = freshens_on bounds start c.args.far.now old new h.lowers t.lowers h.freshens t.freshens;
      relaxed = relaxed;
    }

pub returns-in_err-relax : goal.returns-in_err-relax
returns-in_err-relax g c =
    let h = c.loop-look.invariant in
    let none = c.in_err-relax.ensures.refused refl in
    let (is, most, still) = begins g (goal.at.returns-in_err-relax g c).After-relax in
    record {
      begun = begun_on h.begun c.relax.ensures.tables (rw none.far_is h.begun.own);
      lowers = rw none.far_is h.lowers;
      freshens = rw (none.far_is, none.fresh_is) h.freshens;
      refused = λ _ low floor. tried_refused _ _ _ _ _ _ _ _ _ _ h.begun is most still none (h.lowers.floors low floor);
      relaxed = IfOk-from_err _ _ c.from_residual.ensures.0;
    }
