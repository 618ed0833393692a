use Rattle.std.{proofs.{Common.{rules, ◌≡◌, inl, inr, ℕ, List, Bool, ◌+◌, ◌<◌, length, sym, ap, ◌∙◌, arith}, lemmas.{Int.ints, Bool.cases_eq, List.{get_or_read, length-set, Elements.All-set}, Grind.common_steps}}, specs.Prelude.{ℤ, ◌<ℤ◌}}
use Rattle.stn_net.specs.Schedule.{times_of}
use Rattle.stn_conflict.{specs.Relaxation.{AreRelaxed}, proofs.{Trying.begun_on, Lowering.{fallen_other, falls, floor_kept, relaxed_elsewhere}, Searches.unrefused, relaxation.Search.lower.{Given.Over, Goals.After-index_mut}}}
use Rattle.stn_conflict.proofs.relaxation.Search.lower.Goals as goal

-- the event's estimate was more
record Lowered (far : List ℤ) (fresh : List Bool) (event place : ℕ) (most : ℤ) : Type 0 where
  at : place ≡ event
  there : place < length far
  fresh_there : place < length fresh
  less : most <ℤ times_of far place

lowered : (g : Over) (c : After-index_mut g) → Lowered c.args.self.now.far.items c.args.self.now.fresh.items c.args.event c.from-place.result c.args.most
lowered g c = search (rules, get_or_read)

pub relax_until_met-requires-clause-begun : goal.relax_until_met-requires-clause-begun
relax_until_met-requires-clause-begun g c =
    let l = lowered g (goal.at.relax_until_met-requires-clause-begun g c).After-index_mut in
    let self = c.args.self.now in
    let begun = c.requires.begun in
    let t = begun.tables in
    let (low, floor, under) = c.requires.floor in
    let start : c.from.result ≡ self.start = c.from.ensures ∙ c.number-2.ensures.value in
    begun_on begun (record {
      few = rw t.far t.few;
      far = length-set self.far.items _ _;
      by = length-set self.by.items _ _ ∙ t.by ∙ sym t.far;
      among = rw t.far (All-set (λ x. x < c.args.graph.now.events + 1) self.by.items c.from-place.result c.from.result (rw start begun.start_named) t.among);
      fresh = length-set self.fresh.items _ _ ∙ t.fresh ∙ sym t.far;
    }) (elim (cases_eq self.start c.from-place.result) [
      | inl same ↦
          let own = begun.own in
          let at = ap (times_of self.far.items) same in
          let low_at = ap low (same ∙ l.at) in
          let less = l.less in
          absurd (omega (arith, ints))
      | inr differs ↦ fallen_other self.far.items c.from-place.result c.args.most l.there l.less differs ∙ begun.own
    ])

pub relax_until_met-requires-clause-relaxed : goal.relax_until_met-requires-clause-relaxed
relax_until_met-requires-clause-relaxed g c =
    let l = lowered g (goal.at.relax_until_met-requires-clause-relaxed g c).After-index_mut in
    relaxed_elsewhere c.args.self.now.far.items c.from-place.result c.args.most l.there l.less c.args.graph.now.whole c.args.graph.now.bounds c.args.self.now.fresh.items l.fresh_there c.requires.met

pub returns-clause-fall : goal.returns-clause-fall
returns-clause-fall g c = λ x.
    let far = c.args.self.now.far.items in
    let l = lowered g (goal.at.returns-clause-fall g c).After-index_mut in
    let first = falls far c.from-place.result c.args.most l.there l.less x in
    let next = c.relax_until_met.ensures.lowers.fall x in
    omega (arith, ints)

pub returns-clause-floors : goal.returns-clause-floors
returns-clause-floors g c = λ low floor under.
    let l = lowered g (goal.at.returns-clause-floors g c).After-index_mut in
    c.relax_until_met.ensures.lowers.floors low
    (floor_kept c.args.self.now.far.items c.from-place.result c.args.most l.there l.less floor (rw l.at under))

pub returns-clause-met : goal.returns-clause-met
returns-clause-met g c =
    let l = lowered g (goal.at.returns-clause-met g c).After-index_mut in
    let (low, floor, under) = c.requires.floor in
    unrefused c.relax_until_met.result (AreRelaxed c.args.graph.now.bounds (times_of c.relax_until_met.new.self.far.items)) (λ e. c.relax_until_met.ensures.refused e low
    (floor_kept c.args.self.now.far.items c.from-place.result c.args.most l.there l.less floor (rw l.at under)))
    c.relax_until_met.ensures.met

pub returns-then-get-clause-here : goal.returns-then-get-clause-here
returns-then-get-clause-here g c = grind (arith, common_steps)
