use Rattle.std.{proofs.{Common.{SFits, rules, subst, ap, ◌≡◌, ℕ, ℤ, true, false, pos, ◌+◌, ◌-◌, ◌*◌, ◌<◌, ◌≤◌, ◌<ℤ◌, ◌+ℤ◌, set, w64, to_z, of_z, inl, inr, length, sym, ◌∙◌, arith}, lemmas.{Int.{ints, clamps, to_z-of_z}, List.with_items_is, Grind.common_steps}}, specs.{Prelude.slice_index_or, Int.int_min}}
use lib.Signed.{le_z}
use Rattle.stn_net.specs.Matrix.{Table.{entry, entry_in}, Way.{IsWholeSquare, IsRowShortened, IsWithinTwoHorizons}}
use Rattle.stn_matrix.proofs.{Entries.{place_within, shortened_column, shortened_run, shortened_columns, written-set}, matrix.square.Square.shorten_row.{Given.Over, Goals.After-from-column}}
use Rattle.stn_matrix.proofs.matrix.square.Square.shorten_row.Goals as goal

whole : (g : Over) (c : After-from-column g) → IsWholeSquare (record { events = c.args.self.now.events; entries = c.loop-place.entries })
whole g c =
    let now : IsWholeSquare c.args.self.now = subst IsWholeSquare c.self.view_is c.self.invariant in
    record {
      few = now.few;
      entries = c.loop-place.auto.entries ∙ ap length c.as_mut_slice-entries.ensures.value ∙ ap (λ s. length s.entries) c.self.view_is ∙ now.entries;
    }

column_within : (g : Over) (c : After-from-column g) → slice_index_or c.args.runs.columns.now c.loop-place.place 0 ≤ c.args.self.now.events
column_within g c = let below = c.requires.runs.named c.loop-place.place 0 c.loop-place-test.true in omega (arith, below)

-- the place that the code computes is an entry's
place_below : (g : Over) (c : After-from-column g) (row size : ℕ) → row ≤ c.args.self.now.events → size ≡ c.args.self.now.events + 1
    → row * size + c.from-column.result < length c.loop-place.entries
place_below g c row size rs is = rw (is, c.from-column.ensures, (whole g c).entries) (place_within _ row _ rs (column_within g c))

-- the sum that the code computes is the way, and fits
way_by : (through onward far : ℤ) → SFits w64 through → SFits w64 onward → onward ≡ far → IsWithinTwoHorizons (through +ℤ far)
    → let sum = to_z w64 (of_z w64 through) +ℤ to_z w64 (of_z w64 onward) in SFits w64 sum × (to_z w64 (of_z w64 sum) ≡ (through +ℤ far))
way_by through onward far t o same reach =
    let fits : SFits w64 (through +ℤ far) = omega (arith, ints) in
    rw (to_z-of_z w64 through t, to_z-of_z w64 onward o, same) (fits, to_z-of_z w64 (through +ℤ far) fits)

way : (g : Over) (c : After-from-column g)
    → let onward = slice_index_or c.loop-place.entries (c.args.by * c.size-2.result + c.from-column.result) (pos 0) in
    SFits w64 onward → let sum = to_z w64 (of_z w64 c.args.through) +ℤ to_z w64 (of_z w64 onward) in
    SFits w64 sum × (to_z w64 (of_z w64 sum) ≡ (c.args.through +ℤ entry c.args.self.now c.args.by (slice_index_or c.args.runs.columns.now c.loop-place.place 0)))
way g c fits =
    way_by c.args.through _ (entry c.args.self.now c.args.by (slice_index_or c.args.runs.columns.now c.loop-place.place 0)) c.ranges.through fits
    (rw (c.size-2.ensures.value, c.from-column.ensures) (c.loop-place.invariant.others c.args.by _ c.requires.by (column_within g c) (λ e. c.requires.apart (sym e))))
    (c.requires.ways _ (column_within g c))

nearer : (way sum own : ℤ) → SFits w64 own → le_z way (to_z w64 (of_z w64 own)) ≡ true → way ≡ sum → way ≡ int_min own sum
nearer way sum own fits test is = let no_longer = rw (to_z-of_z w64 own fits) at test in omega (arith, ints, clamps)

longer : (way sum own : ℤ) → SFits w64 own → le_z way (to_z w64 (of_z w64 own)) ≡ false → way ≡ sum → own <ℤ sum
longer way sum own fits test is = let beyond = rw (to_z-of_z w64 own fits) at test in omega (arith, ints)

further : (long place next : ℕ) → place < long → place < next → long - next < long - place
further long place next there more = omega arith

pub slice_copy_out-way : goal.slice_copy_out-way
slice_copy_out-way g c = place_below g c c.args.by c.size-2.result c.requires.by c.size-2.ensures.value

pub slice_copy_out-t-22 : goal.slice_copy_out-t-22
slice_copy_out-t-22 g c = place_below g (goal.at.slice_copy_out-t-22 g c).After-from-column c.args.row c.size.result c.requires.row c.size.ensures.value

pub bounds-entries-own : goal.bounds-entries-own
bounds-entries-own g c = place_below g (goal.at.bounds-entries-own g c).After-from-column c.args.row c.size.result c.requires.row c.size.ensures.value

pub overflow_add-way-in-loop-place : goal.overflow_add-way-in-loop-place
overflow_add-way-in-loop-place g c = (way g (goal.at.overflow_add-way-in-loop-place g c).After-from-column (search rules)).0

pub loop-place-preserved-then-way-entries : goal.loop-place-preserved-then-way-entries
loop-place-preserved-then-way-entries g c =
    let far = entry c.args.self.now in
    let width = c.args.self.now.events + 1 in
    let row = c.args.row in
    let entries = c.loop-place.entries in
    let before = (goal.at.loop-place-preserved-then-way-entries g c).After-from-column in
    let there = c.loop-place-test.true in
    let so_far = c.loop-place.invariant in
    let column = slice_index_or c.args.runs.columns.now c.loop-place.place 0 in
    let same = to_z-of_z w64 c.args.through c.ranges.through in
    let value = to_z w64 (of_z w64 (c.args.through +ℤ to_z w64 (of_z w64 (entry_in entries (c.args.by * width + column))))) in
    let read = nearer _ (c.args.through +ℤ far c.args.by column) (slice_index_or entries (row * c.size.result + c.from-column.result) (pos 0)) (search rules) c.if-way-entries.true (way g before (search rules)).1 in
    let least = rw (c.size.ensures.value, c.size-2.ensures.value, c.from-column.ensures, same) at read in
    let written = written-set (record { events = c.args.self.now.events; entries = entries }) row column value (whole g before) c.requires.row (column_within g before) in
    let more = shortened_column width (far row) (λ y. entry_in entries (row * width + y)) (λ y. entry_in (set entries (row * width + column) value) (row * width + y)) (far c.args.by) c.args.through
    c.args.runs.columns.now c.loop-place.place (rw same at so_far.so_far) c.requires.runs.named there
    (written.here ∙ least) (λ y ys ne. written.others row y c.requires.row (omega (arith, ys)) (inr ne)) in
    record {
      within = omega (arith, there);
      so_far = rw (c.size.ensures.value, c.size-2.ensures.value, c.from-column.ensures, same) more;
      others = rw (c.size.ensures.value, c.size-2.ensures.value, c.from-column.ensures, same)
          (λ x y xs ys ne. written.others x y xs ys (inl ne) ∙ so_far.others x y xs ys ne);
    }

pub bounds-runs-place-else-way-entries : goal.bounds-runs-place-else-way-entries
bounds-runs-place-else-way-entries g c = rw c.requires.runs.alike c.loop-place-test.true

pub loop-place-smaller : goal.loop-place-smaller
loop-place-smaller g c = rw c.from-place.ensures (further _ _ _ c.loop-place-test.true (c.requires.runs.after c.loop-place.place c.loop-place-test.true))

pub loop-place-preserved : goal.loop-place-preserved
loop-place-preserved g c =
    let there = c.loop-place-test.true in
    let column = slice_index_or c.args.runs.columns.now c.loop-place.place 0 in
    let before = (goal.at.loop-place-preserved g c).After-from-column in
    let same = to_z-of_z w64 c.args.through c.ranges.through in
    let read = longer _ (c.args.through +ℤ entry c.args.self.now c.args.by column) (slice_index_or c.loop-place.entries (c.args.row * c.size.result + c.from-column.result) (pos 0)) (search rules) c.if-way-entries.false (way g before (search rules)).1 in
    let more = shortened_run _ _ _ _ c.args.through c.args.runs.columns.now c.args.runs.ends.now c.loop-place.place
    (rw same at c.loop-place.invariant.so_far) c.requires.runs there (rw (c.size.ensures.value, c.from-column.ensures) at read) in
    record {
      within = rw c.from-place.ensures (c.requires.runs.within c.loop-place.place there);
      so_far = rw (same, c.from-place.ensures) more;
      others = c.loop-place.invariant.others;
    }

pub returns-clause-shortened : goal.returns-clause-shortened
returns-clause-shortened g c =
    let far = entry c.args.self.now in
    let events = c.args.self.now.events in
    let width = events + 1 in
    let so_far = c.loop-place.invariant in
    let shortened = shortened_columns width (far c.args.row) (λ y. entry_in c.loop-place.entries (c.args.row * width + y)) (far c.args.by) c.args.through
    c.args.runs.columns.now c.loop-place.place (rw (to_z-of_z w64 c.args.through c.ranges.through) at so_far.so_far) c.loop-place-test.false
    (λ y ys. c.requires.left_out y (omega arith)) in
    let done : IsRowShortened events far (entry (record { events = events; entries = c.loop-place.entries })) c.args.row c.args.by c.args.through =
    record { here = λ y ys. shortened y (omega arith); others = so_far.others } in
    let items = with_items_is c.self.inside.entries c.loop-place.entries (omega arith) in
    let events_same : c.self.inside.events ≡ events = ap (λ s. s.events) c.self.view_is in
    rw (items, events_same) done

pub invariant_of-self : goal.invariant_of-self
invariant_of-self g c = grind (arith, common_steps)
