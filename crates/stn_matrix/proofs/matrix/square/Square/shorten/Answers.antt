use Rattle.std.{proofs.{Common.{ap, refl, ◌≡◌, pos, ◌+◌, ◌∙◌, arith, sym, subst, to_z, of_z, w64, ◌+ℤ◌, ◌≤ℤ◌, ◌<ℤ◌, ◌≤◌}, lemmas.Int.ints}, specs.Prelude.slice_index_or}
use Rattle.stn_net.{specs.Matrix.{Table.{entry, entry_in}, Way.{AreRunsOf, IsRowShortened}}, proofs.Closure.{closed_within, shorter-kept_row}}
use Rattle.stn_matrix.proofs.{Entries.{IsNearerRow, nearer_row, row_left_out, shortened_skip, shortened_turn}, Passing.runs_of_row, matrix.square.Square.shorten.{Given.Over, Goals.{then-through-own, else-through-own}}}
use Rattle.stn_matrix.proofs.matrix.square.Square.shorten.Goals as goal

pub loop-row-init : goal.loop-row-init
loop-row-init g c = record { events = refl; shortened = record { closed = c.requires.closed; from = c.requires.from; to = c.requires.to; round = c.requires.round; here = λ x y x_before. absurd (omega (arith, x_before)); left = λ x y _ _ _. refl } }

pub overflow_add-through : goal.overflow_add-through
overflow_add-through g c =
    let old = entry c.args.self.now in
    let row : c.loop-row.row ≤ c.args.self.now.events = (let size = c.size-size.ensures.value in omega (arith, c.loop-row-test.true)) in
    let from : c.from-from.result ≤ c.args.self.now.events = rw (c.from-from.ensures, c.number.ensures.value) c.requires.from in
    let own = c.row-own.ensures.entries c.from-from.result (rw c.loop-row.invariant.events from) in
    let same = c.loop-row.invariant.shortened.left c.loop-row.row c.from-from.result (omega arith) row from in
    let within = closed_within c.args.self.now.events old c.requires.closed c.loop-row.row c.from-from.result row from in
    omega (arith, ints)

-- the row's event lies so long before the arc's end by way of the arc
way : (g : Over) (c : goal.After-shorten_row-arg-1 g)
    → to_z w64 (of_z w64 (to_z w64 (of_z w64 (slice_index_or c.row-own.result.now c.from-from.result (pos 0))) +ℤ to_z w64 (of_z w64 c.get-weight.result))) ≡ (entry c.loop-row.self c.loop-row.row c.args.arc.from +ℤ c.args.arc.weight)
way g c =
    let row : c.loop-row.row ≤ c.args.self.now.events = (let size = c.size-size.ensures.value in omega (arith, c.loop-row-test.true)) in
    let from_is = c.from-from.ensures ∙ c.number.ensures.value in
    let own : entry_in c.row-own.result.now c.from-from.result ≡ entry c.loop-row.self c.loop-row.row c.args.arc.from =
    c.row-own.ensures.entries c.from-from.result (rw (from_is, c.loop-row.invariant.events) c.requires.from) ∙ ap (entry c.loop-row.self c.loop-row.row) from_is in
    let same = c.loop-row.invariant.shortened.left c.loop-row.row c.args.arc.from (omega arith) row c.requires.from in
    let within = closed_within c.args.self.now.events (entry c.args.self.now) c.requires.closed c.loop-row.row c.args.arc.from row c.requires.from in
    omega (arith, ints)

-- the row is one from which the arc's end comes nearer
nearer : (g : Over) (c : goal.After-shorten_row-arg-1 g)
    → IsNearerRow c.args.self.now.events (entry c.loop-row.self) c.loop-row.row c.from-to.result (to_z w64 (of_z w64 (to_z w64 (of_z w64 (slice_index_or c.row-own.result.now c.from-from.result (pos 0))) +ℤ to_z w64 (of_z w64 c.get-weight.result))))
nearer g c =
    let new = entry c.loop-row.self in
    let row : c.loop-row.row ≤ c.args.self.now.events = (let size = c.size-size.ensures.value in omega (arith, c.loop-row-test.true)) in
    let arc = c.args.arc in
    let to_is = c.from-to.ensures ∙ c.number-2.ensures.value in
    let end : entry_in c.row-own.result.now c.from-to.result ≡ new c.loop-row.row arc.to =
    c.row-own.ensures.entries c.from-to.result (rw (to_is, c.loop-row.invariant.events) c.requires.to) ∙ ap (new c.loop-row.row) to_is in
    let through = to_z w64 (of_z w64 (to_z w64 (of_z w64 (slice_index_or c.row-own.result.now c.from-from.result (pos 0))) +ℤ to_z w64 (of_z w64 c.get-weight.result))) in
    let shorter : through <ℤ new c.loop-row.row arc.to = omega (arith, ints) in
    rw to_is (nearer_row c.args.self.now.events (entry c.args.self.now) new arc.from arc.to arc.weight c.loop-row.row through c.loop-row.invariant.shortened row (way g c) shorter)

pub shorten_row-requires-clause-apart : goal.shorten_row-requires-clause-apart
shorten_row-requires-clause-apart g c = (nearer g c).apart

pub shorten_row-requires-clause-ways : goal.shorten_row-requires-clause-ways
shorten_row-requires-clause-ways g c = λ y ys. (nearer g c).ways y (omega (arith, c.loop-row.invariant.events))

pub shorten_row-requires-clause-left_out : goal.shorten_row-requires-clause-left_out
shorten_row-requires-clause-left_out g c =
    let row : c.loop-row.row ≤ c.args.self.now.events = (let size = c.size-size.ensures.value in omega (arith, c.loop-row-test.true)) in
    let arc = c.args.arc in
    let to_is = c.from-to.ensures ∙ c.number-2.ensures.value in
    rw to_is (λ y ys. row_left_out c.args.self.now.events (entry c.args.self.now) (entry c.loop-row.self) arc.from arc.to arc.weight c.loop-row.row
    c.arrange.new.columns _ c.loop-row.invariant.shortened row (way g c) c.arrange.ensures.nearer y
    (omega (arith, c.loop-row.invariant.events)))

pub shorten_row-requires-clause-runs : goal.shorten_row-requires-clause-runs
shorten_row-requires-clause-runs g c =
    let new = entry c.loop-row.self in
    let row : c.loop-row.row ≤ c.args.self.now.events = (let size = c.size-size.ensures.value in omega (arith, c.loop-row-test.true)) in
    let arc = c.args.arc in
    let to_is = c.from-to.ensures ∙ c.number-2.ensures.value in
    let through = to_z w64 (of_z w64 (to_z w64 (of_z w64 (slice_index_or c.row-own.result.now c.from-from.result (pos 0))) +ℤ to_z w64 (of_z w64 c.get-weight.result))) in
    rw to_is (subst (λ n. AreRunsOf (n + 1) (new c.loop-row.row) (new arc.to) through c.arrange.new.columns c.arrange.new.ends) (sym c.loop-row.invariant.events)
    (runs_of_row c.args.self.now.events (entry c.args.self.now) new arc.from arc.to arc.weight c.loop-row.row through c.arrange.new.columns c.arrange.new.ends
    c.loop-row.invariant.shortened row (way g c) c.arrange.ensures.nearer.within c.arrange.ensures.runs))

pub loop-row-preserved : goal.loop-row-preserved
loop-row-preserved g c =
    let old = entry c.args.self.now in
    let new = entry c.loop-row.self in
    let row = c.loop-row.row in
    let rs : c.loop-row.row ≤ c.args.self.now.events = (let size = c.size-size.ensures.value in omega (arith, c.loop-row-test.true)) in
    let arc = c.args.arc in
    let from_is = c.from-from.ensures ∙ c.number.ensures.value in
    let to_is = c.from-to.ensures ∙ c.number-2.ensures.value in
    let start : entry_in c.row-own.result.now c.from-from.result ≡ new row arc.from =
    c.row-own.ensures.entries c.from-from.result (rw (from_is, c.loop-row.invariant.events) c.requires.from) ∙ ap (new row) from_is in
    let end : entry_in c.row-own.result.now c.from-to.result ≡ new row arc.to =
    c.row-own.ensures.entries c.from-to.result (rw (to_is, c.loop-row.invariant.events) c.requires.to) ∙ ap (new row) to_is in
    let weight = c.get-weight.ensures.value in
    let start_is = c.loop-row.invariant.shortened.left row arc.from (omega arith) rs c.requires.from in
    let start_within = closed_within c.args.self.now.events old c.requires.closed row arc.from rs c.requires.from in
    let through : to_z w64 (of_z w64 (to_z w64 (of_z w64 (slice_index_or c.row-own.result.now c.from-from.result (pos 0))) +ℤ to_z w64 (of_z w64 c.get-weight.result))) ≡ (new row arc.from +ℤ arc.weight) = omega (arith, ints) in
    elim c.if-through-own.branch [
      | then-through-own w ↦ rw w.self-is (record {
        events = w.shorten_row.ensures.events ∙ c.loop-row.invariant.events;
        shortened = (
            let turned = subst (λ n. IsRowShortened n new (entry w.shorten_row.new.self) row arc.to (new row arc.from +ℤ arc.weight)) c.loop-row.invariant.events
            (rw (to_is, through) at w.shorten_row.ensures.shortened) in
            shortened_turn c.args.self.now.events old new (entry w.shorten_row.new.self) arc.from arc.to arc.weight row c.loop-row.invariant.shortened rs turned);
      })
      | else-through-own w ↦ rw w.self-is (record {
        events = c.loop-row.invariant.events;
        shortened = (
            let longer : new row arc.to ≤ℤ (new row arc.from +ℤ arc.weight) = (let h = w.if-through-own.false in grind (arith, ints)) in
            shortened_skip c.args.self.now.events old new arc.from arc.to arc.weight row c.loop-row.invariant.shortened rs longer);
      })
    ]

pub returns-clause-shorter : goal.returns-clause-shorter
returns-clause-shorter g c = λ x y xs ys.
    c.loop-row.invariant.shortened.here x y (omega (arith, c.loop-row-test.false)) xs ys

-- an arc that is no shorter than what is known brings no event nearer
pub returns-then-entry-weight-clause-shorter : goal.returns-then-entry-weight-clause-shorter
returns-then-entry-weight-clause-shorter g c = λ x y xs ys.
    let far = entry c.args.self.now in
    let arc = c.args.arc in
    let from_is = c.from-from.ensures ∙ c.number.ensures.value in
    let to_is = c.from-to.ensures ∙ c.number-2.ensures.value in
    let known : c.entry.result ≡ far arc.from arc.to = rw (from_is, to_is) at c.entry.ensures in
    let weight = c.get-weight.ensures.value in
    let longer : far arc.from arc.to ≤ℤ arc.weight = (let h = c.if-entry-weight.true in omega (arith, ints)) in
    let triangle = c.requires.closed.shortest.triangle x arc.from arc.to xs c.requires.from c.requires.to in
    sym (shorter-kept_row c.args.self.now.events far arc.from arc.to arc.weight c.requires.closed c.requires.to x y xs ys (omega (arith, ints, longer, triangle)))
