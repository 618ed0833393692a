use Rattle.std.{proofs.{lemmas.{Grind.common_steps, Int.ints, Bool.false≢true}, Common.{rules, ◌≡◌, ℕ, ℤ, ◌+◌, ◌*◌, ◌<◌, ◌≤◌, false, List, length, sym, ◌∙◌, arith}}, specs.Prelude.{◌||◌, ◌≤ℤ◌, nat_lt, int_lt}}
use Rattle.stn_time.specs.Time.{horizon}
use Rattle.stn_net.specs.Difference.{Difference}
use Rattle.stn_conflict.{specs.{declared.{links.Link.Link, outgoing.Look.Look}, Arcs.{arc_of, bound_at}, Directions.{facing}, Relaxation.{IsListed, IsLook}}, proofs.{Rows.{rows_kept, rows_over, rows_push}, Steps.rank_within, outgoing.Rows.add_next.{Given.Over, Goals.{After-side_of-arc, then-link-self+in_ok-push, else-link-self+else-weight-lt-HORIZON}}}}
use Rattle.stn_conflict.proofs.outgoing.Rows.add_next.Goals as goal

-- the link begins at one of the events
among : (g : Over) (c : After-side_of-arc g) → c.side_of-arc.result.from < length c.args.self.now.outgoing.items
among g c = search rules

-- what the link says of all bounds
record Says (bounds : List Difference) (link : Link) (from to : ℕ) (weight : ℤ) : Type 0 where
  there : link.place < length bounds
  from_is : from ≡ (arc_of bounds link).from
  to_is : to ≡ (arc_of bounds link).to
  weight_is : weight ≡ (arc_of bounds link).weight

says : (g : Over) (c : After-side_of-arc g) (bounds : List Difference) → c.args.link.place < length bounds → bound_at bounds c.args.link.place ≡ c.args.bound.now
    → Says (facing c.args.self.now.direction bounds) c.args.link c.side_of-arc.result.from c.side_of-arc.result.to c.side_of-arc.result.weight
says g c bounds there is = grind (arith, common_steps)

-- a link that is left out
unlisted : {place whole : ℕ} {weight : ℤ} → whole ≤ place → horizon ≤ℤ weight → (nat_lt place whole || int_lt weight horizon) ≡ false
unlisted past wide = search rules

pub returns-in_err-push-clause-rows : goal.returns-in_err-push-clause-rows
returns-in_err-push-clause-rows g c = λ bounds there is h.
    let at : c.from.result ≡ c.side_of-arc.result.from = c.from.ensures ∙ c.number.ensures.value in
    record {
      faced = h.faced;
      choice = h.choice;
      within = h.within;
      stand = rows_kept c.push.new.self h.stand (rw at (among g (goal.at.returns-in_err-push-clause-rows g c).After-side_of-arc)) c.index_mut.ensures.value c.in_err-push.ensures.items;
    }

pub returns-clause-rows : goal.returns-clause-rows
returns-clause-rows g c = λ bounds there is h.
    let self = c.args.self.now in
    let all = facing self.direction bounds in
    let count = length self.outgoing.items in
    let link = c.args.link in
    let arc = c.side_of-arc.result in
    let place = (goal.at.returns-clause-rows g c).After-side_of-arc in
    let n = says g place bounds there is in
    let fits : self.added + 1 ≤ 2 * length bounds = omega (arith, rank_within (length bounds) link there, c.requires.next) in
    elim c.if-link-self.branch [
      | then-link-self+in_ok-push w ↦
          let at : w.from.result ≡ arc.from = w.from.ensures ∙ w.number.ensures.value in
          let look : Look = record { link = link; to = arc.to; weight = arc.weight } in
          let looked : IsLook all w.from.result look = record { there = n.there; from = sym (at ∙ n.from_is); to = sym n.to_is; weight = sym n.weight_is } in
          rw w.self-is (record {
            faced = h.faced;
            choice = h.choice;
            within = fits;
            stand = rows_push w.push.new.self h.stand c.requires.next looked (rw at (among g place))
                w.index_mut.ensures.value w.in_ok-push.ensures.items;
          })
      | else-link-self+else-weight-lt-HORIZON w ↦
          let none : ¬ IsListed self.whole all link = λ listed.
          false≢true (sym (unlisted {weight = arc.weight} w.if-link-self.false (omega (arith, ints, c.get-weight.ensures.value, c.get-weight.ensures.within, w.if-weight-lt-HORIZON.false))) ∙ rw n.weight_is listed) in
          rw w.self-is (record { faced = h.faced; choice = h.choice; within = fits; stand = rows_over link h.stand c.requires.next none })
    ]
