use Rattle.std.proofs.{Common.{◌≡◌, refl, sym, ap, subst, ◌∙◌, arith}, lemmas.Bool.false≢true}
use Rattle.stn_records.specs.Content.{Content, is_live}
use Rattle.stn_site.specs.{Held.{Held, next_id}, Change.IsAgain}
use Rattle.stn_replica.{specs.Invariant.stops_live, proofs.{CatchingUp.{falls_by_change, grown_by_change, unlive_by_change, sound_with_one, sound_anew, never_live}, Sound.{spares_added, spares_fallen, spares_same}, replica.Replica.change.Goals.{then-stops, else-stops+then-is_live, else-stops+else-is_live}}}
use Rattle.stn_replica.proofs.replica.Replica.change.Goals as goal

pub invariant_of-self-then-stops : goal.invariant_of-self-then-stops
invariant_of-self-then-stops g c =
    let took = c.rebuild-self-inside.ensures in
    sound_anew c.self.inside.plan c.change.new.self c.self.inside.opening c.self.inside.current c.rebuild-self-inside.new.current c.self.inside.possible c.rebuild-self-inside.result c.records-records.result.now
    c.self.invariant c.in_ok-id.ensures.leaves.source c.records-records.ensures.named c.records-records.ensures.value (record { settled = took.settled; events = took.events; counted = took.counted })

pub invariant_of-self-then-is_live : goal.invariant_of-self-then-is_live
invariant_of-self-then-is_live g c =
    let asked = c.args.asked.now in
    let kept = sym (c.stops_live-stops.ensures ∙ ap (stops_live asked) c.records.ensures.value) ∙ c.if-stops.false in
    let live = ap (λ (s : Content). is_live s c.in_ok-id.id) (sym c.records-records.ensures.value) ∙ sym c.if-is_live.ensures in
    let change = c.in_ok-id.ensures in
    let more = grown_by_change asked change.leaves change.id change.accepted kept live in
    let took = c.tighten_by-self-inside.ensures in
    sound_with_one c.self.inside.plan c.change.new.self c.self.inside.opening c.self.inside.current c.tighten_by-self-inside.new.current c.self.inside.possible c.tighten_by-self-inside.result c.records-records.result.now
    c.self.invariant change.leaves.source c.records-records.ensures.named c.records-records.ensures.value more.1 (record { settled = took.settled; events = took.events; counted = took.counted })

pub invariant_of-self-else-is_live : goal.invariant_of-self-else-is_live
invariant_of-self-else-is_live g c =
    let asked = c.args.asked.now in
    let kept = sym (c.stops_live-stops.ensures ∙ ap (stops_live asked) c.records.ensures.value) ∙ c.if-stops.false in
    let dead = ap (λ (s : Content). is_live s c.in_ok-id.id) (sym c.records-records.ensures.value) ∙ sym c.if-is_live.ensures in
    let change = c.in_ok-id.ensures in
    unlive_by_change asked c.in_ok-id.id change.leaves change.accepted kept dead c.self.invariant

pub returns-clause-work : goal.returns-clause-work
returns-clause-work g c =
    let old = c.self.inside.plan in
    let new = c.change.new.self in
    let asked = c.args.asked.now in
    let change = c.in_ok-id.ensures in
    let stops = sym (c.stops_live-stops.ensures ∙ ap (stops_live asked) c.records.ensures.value) in
    let before = ap (λ (h : Held). h.steps) c.self.view_is in
    let first = ap (λ (h : Held). h.state) (sym c.self.view_is) in
    elim c.if-stops.branch [
      | then-stops w ↦
          spares_fallen c.args.self.now c.if-stops.self (falls_by_change asked c.in_ok-id.id change.leaves (stops ∙ w.if-stops.true)) first (ap (λ (h : Held). h.state) w.self-is)
      | else-stops+then-is_live w ↦
          let live = ap (λ (s : Content). is_live s c.in_ok-id.id) (sym c.records-records.ensures.value) ∙ sym w.if-is_live.ensures in
          let more = grown_by_change asked change.leaves change.id change.accepted (stops ∙ w.if-stops.false) live in
          let steps = ap (λ (h : Held). h.steps) w.self-is in
          spares_added c.args.self.now c.if-stops.self more.1 first (ap (λ (h : Held). h.state) w.self-is)
          (omega (arith, w.tighten_by-self-inside.ensures.least, before, steps)) (omega (arith, w.tighten_by-self-inside.ensures.most, before, steps))
      | else-stops+else-is_live w ↦
          spares_same c.args.self.now c.if-stops.self (ap (λ (h : Held). h.steps) w.self-is ∙ ap (λ (h : Held). h.steps) c.self.view_is)
    ]

pub returns-clause-again : goal.returns-clause-again
returns-clause-again g c = λ there.
    let old = c.self.inside.plan in
    let asked = c.args.asked.now in
    let gone = subst (λ (h : Held). IsAgain asked h.state) (sym c.self.view_is) there in
    let same : c.change.new.self ≡ old = (c.in_ok-id.ensures.again gone).1 in
    let dead = never_live asked old.state (next_id old) gone in
    elim c.if-stops.branch [
      | then-stops w ↦ absurd (false≢true (sym dead.0 ∙ sym (c.stops_live-stops.ensures ∙ ap (stops_live asked) c.records.ensures.value) ∙ w.if-stops.true))
      | else-stops+then-is_live w ↦
          absurd (false≢true (sym dead.1 ∙ (λ i. is_live ((sym same) i).state ((sym c.in_ok-id.ensures.id) i))
          ∙ ap (λ (s : Content). is_live s c.in_ok-id.id) (sym c.records-records.ensures.value) ∙ sym w.if-is_live.ensures))
      | else-stops+else-is_live w ↦ (refl, w.self-is ∙ ap (λ (h : Held). record { site = h.site; source = h.source; state = h.state; steps = c.self.inside.current.steps }) same ∙ c.self.view_is)
    ]
