use Rattle.std.{proofs.{Common.{◌≡◌, ℕ, ◌<◌, ◌≤◌, ◌+ℤ◌, ◌≤ℤ◌, sym, ◌∙◌, arith, inl, inr}, lemmas.{Int.ints, Bool.cases_eq, List.Sorted.{All-permutation, IsPermutation-trans}}}, specs.Prelude.slice_index_or}
use Rattle.stn_net.{specs.Matrix.Table.entry, proofs.Closure.closed_within}
use Rattle.stn_matrix.proofs.matrix.runs.gather.Goals.{then-far-onward, else-far-onward}
use Rattle.stn_matrix.proofs.matrix.runs.gather.Goals as goal

pub bounds-onward-column : goal.bounds-onward-column
bounds-onward-column g c =
    let within = All-permutation (λ y. y ≤ c.args.square.now.events) c.args.columns.now c.loop-place.columns c.loop-place.invariant.permutation c.requires.within in
    rw c.row-onward.ensures.long (omega arith)

pub bounds-own-column : goal.bounds-own-column
bounds-own-column g c =
    let within = All-permutation (λ y. y ≤ c.args.square.now.events) c.args.columns.now c.loop-place.columns c.loop-place.invariant.permutation c.requires.within in
    rw c.row-own.ensures.long (omega arith)

pub overflow_add-far : goal.overflow_add-far
overflow_add-far g c =
    let table = entry c.args.square.now in
    let within = All-permutation (λ y. y ≤ c.args.square.now.events) c.args.columns.now c.loop-place.columns c.loop-place.invariant.permutation c.requires.within in
    let column : c.from-column.result ≤ c.args.square.now.events = rw c.from-column.ensures (within c.loop-place.place 0 (omega arith)) in
    let first : c.from-first.result ≤ c.args.square.now.events = rw (← c.loop-place.invariant.first) (within c.args.begin 0 (omega arith)) in
    let to : c.from.result ≤ c.args.square.now.events = rw (c.from.ensures, c.number.ensures.value) c.requires.to in
    let before = closed_within c.args.square.now.events table c.requires.closed c.from.result c.from-first.result to first in
    let after = closed_within c.args.square.now.events table c.requires.closed c.from-first.result c.from-column.result first column in
    let own = c.row-own.ensures.entries c.from-first.result first in
    let onward = c.row-onward.ensures.entries c.from-column.result column in
    omega (arith, ints)

pub loop-place-preserved : goal.loop-place-preserved
loop-place-preserved g c =
    let so_far = c.loop-place.invariant in
    elim c.if-far-onward.branch [
      | then-far-onward w ↦ (
          let before = c.loop-place.columns in
          let after = w.swap-then-far-onward.new.self in
          let moved = w.swap-then-far-onward.ensures.by_index in
          let place = c.loop-place.place in
          let end = c.loop-place.end in
          let begins = so_far.begins in
          let ends = so_far.ends in
          let same : (k : ℕ) → k < end → slice_index_or after k 0 ≡ slice_index_or before k 0 = λ k below. moved.2 k 0 (omega arith) (omega arith) in
          let here : slice_index_or after end 0 ≡ c.from-column.result = moved.0 0 ∙ sym c.from-column.ensures in
          let first_same = same c.args.begin begins in
          let table = entry c.args.square.now in
          let first = c.from-first.result in
          let to_is = c.from.ensures ∙ c.number.ensures.value in
          let within = All-permutation (λ y. y ≤ c.args.square.now.events) c.args.columns.now c.loop-place.columns c.loop-place.invariant.permutation c.requires.within in
          let column : c.from-column.result ≤ c.args.square.now.events = rw c.from-column.ensures (within place 0 (omega arith)) in
          let firsts : first ≤ c.args.square.now.events = rw (← so_far.first) (within c.args.begin 0 (omega arith)) in
          let to_first = closed_within c.args.square.now.events table c.requires.closed c.args.arc.now.to first c.requires.to firsts in
          let onward = closed_within c.args.square.now.events table c.requires.closed first c.from-column.result firsts column in
          let far_is = rw to_is at (c.row-own.ensures.entries first firsts) in
          let rest_is = c.row-onward.ensures.entries c.from-column.result column in
          let whole_is = rw to_is at (c.row-own.ensures.entries c.from-column.result column) in
          let test = w.if-far-onward.true in
          let way : (table c.args.arc.now.to first +ℤ table first c.from-column.result) ≤ℤ table c.args.arc.now.to c.from-column.result = omega (arith, ints) in
          rw (w.columns-is, w.end-is) (record {
            permutation = IsPermutation-trans c.args.columns.now before after so_far.permutation w.swap-then-far-onward.ensures.permutation;
            kept = λ i below. same i (omega arith) ∙ so_far.kept i below;
            first = first_same ∙ so_far.first;
            begins = omega arith;
            ends = omega arith;
            beyond = λ i later below. elim (cases_eq i end) [
              | inl e ↦ rw (e, here) way
              | inr ne ↦ rw (same i (omega arith)) (so_far.beyond i later (omega arith))
            ];
          }))
      | else-far-onward w ↦ rw (w.columns-is, w.end-is) (record {
        permutation = so_far.permutation;
        kept = so_far.kept;
        first = so_far.first;
        begins = so_far.begins;
        ends = (let h = so_far.ends in omega arith);
        beyond = so_far.beyond;
      })
    ]
