-- Rows of looks, by the event at which their links begin.
use Rattle.std.{proofs.{lemmas.{Grind.common_steps, Bool.{cases_eq, cases_lt}, List.{map-set, get_or-map, get_or-take, length-map, length-set, length-take, length-append, Sorted.IsNonDecreasingBy-push, Elements.{Contains-get_or, Contains-push, Contains-append_left, Contains-push_cases}}}, Common.{rules, ◌≡◌, ◌≢◌, inl, inr, ℕ, ◌+◌, ◌-◌, ◌*◌, ◌<◌, ◌≤◌, List, [], ◌∷◌, ◌++◌, length, map, set, take, sym, subst, ap, ◌∙◌, arith}}, specs.{Prelude.{Vec, slice_index_or}, List.{Contains, Sorted.IsNonDecreasingBy}}}
use Rattle.stn_net.specs.Difference.{Difference}
use Rattle.stn_conflict.{specs.{declared.{arcs.Direction.Direction, links.Link.Link, outgoing.{Look.Look, Rows.Rows}}, Arcs.{arc_of, rank}, Directions.facing, Relaxation.{row_of, AreFirstRows, AreRowsTo, HasLink, HasRows, IsCutAt, IsListed, IsLook, IsRow, IsRowTo}}, proofs.{OneCycle.rank_tells, Steps.{place_of_rank, rank_place, rank_within}, Tightness.{arc_before, arc_longer}, Turned.{append_facing, length_facing, take_facing}}}

-- a row without its looks at links of bounds from a place on
abbrev pub AreCut : List Look → ℕ → List Look → Type 0
AreCut old place new = (count : ℕ) × IsCutAt old place count × (new ≡ take count old)

-- has those before the place
cut_has : {row : List Look} {place count : ℕ} {link : Link} → IsCutAt row place count → link.place < place → HasLink row link → HasLink (take count row) link
cut_has {row} {place} {count} {link} cut below (look, (k, within, at), names) = elim (cases_lt k count) [
  | inl front ↦ (look, (k, omega (arith, length-take count row, front, within), get_or-take count row k look front ∙ at), names)
  | inr past ↦ absurd (omega (arith, cut.behind k look past within, ap (λ (l : Look). l.link.place) at, ap (λ (l : Link). l.place) names))
]

-- and no others
cut_in : {row : List Look} {place count : ℕ} {look : Look} → IsCutAt row place count → Contains (take count row) look → Contains row look × (look.link.place < place)
cut_in cut (k, within, at) = search (rules, get_or-take)

-- in the same order
cut_ordered : {row : List Look} {place count : ℕ} → IsCutAt row place count → IsNonDecreasingBy (λ look. look.link.place) row → IsNonDecreasingBy (λ look. look.link.place) (take count row)
cut_ordered cut ordered = search (rules, get_or-take)

module _ (whole : ℕ) (bounds : List Difference) (x seen : ℕ) (row : List Look) (h : IsRowTo whole bounds x seen row) where
  -- the next look in the row
  row_push : {look : Look} → rank look.link ≡ seen → IsLook bounds x look → IsRowTo whole bounds x (seen + 1) (row ++ look ∷ [])
  row_push {look} at is = record {
    every = λ other below listed from. elim (cases_eq (rank other) seen) [
      | inl equal ↦ (look, Contains-push row look, sym (rank_tells other look.link (equal ∙ sym at)))
      | inr less ↦ (let (old, has, link) = h.every other (omega arith) listed from in (old, Contains-append_left row (look ∷ []) old has, link))
    ];
    each = λ other has. elim (Contains-push_cases row look other has) [
      | inl before ↦ (let (old, less) = h.each other before in (old, omega arith))
      | inr e ↦ subst (λ l. IsLook bounds x l × (rank l.link < seen + 1)) e (is, omega arith)
    ];
    ordered = IsNonDecreasingBy-push (λ l. l.link.place) row look h.ordered (λ d some.
        let last = slice_index_or row (length row - 1) d in
        place_of_rank last.link look.link (omega (arith, (h.each last (Contains-get_or row (length row - 1) d (omega arith))).1)));
  }

  -- the next link is not looked at in it
  row_over : ((link : Link) → rank link ≡ seen → IsListed whole bounds link → (arc_of bounds link).from ≢ x) → IsRowTo whole bounds x (seen + 1) row
  row_over none = search (rules)

  -- the row without its looks at links of bounds from a place on
  row_cut : {place count next : ℕ} → IsCutAt row place count → next ≤ 2 * place → ((rank : ℕ) → rank < seen → rank < 2 * place → rank < next) → next ≤ seen
      → IsRowTo whole bounds x next (take count row)
  row_cut {place} {count} cut fits most less = record {
    every = λ link below listed from. cut_has cut (rank_place link place (omega arith)) (h.every link (omega arith) listed from);
    each = λ look has.
        let (before, front) = cut_in cut has in
        let (is, low) = h.each look before in
        (is, most (rank look.link) low (rank_within place look.link front));
    ordered = cut_ordered cut h.ordered;
  }

  -- the row of other bounds, of which as many links say the same
  row_on : {other : List Difference} → ((link : Link) → rank link < seen → (link.place < length other) × (arc_of other link ≡ arc_of bounds link)) → IsRowTo whole other x seen row
  row_on same = search rules

module _ {A : Type 0} where
  -- the looks of each row
  abbrev lists : List (Vec Look A) → List (List Look)
  lists rows = map (λ row. row.items) rows

  -- one more empty row
  pub rows_empty : (rows : List (Vec Look A)) (row : Vec Look A) → ((x : ℕ) → row_of rows x ≡ []) → row.items ≡ [] → (x : ℕ) → row_of (rows ++ row ∷ []) x ≡ []
  rows_empty rows row none empty x = grind (arith, common_steps)

  -- empty rows are those of no links
  pub rows_of_none : {whole : ℕ} {bounds : List Difference} {count : ℕ} {rows : List (Vec Look A)} → length rows ≡ count → ((x : ℕ) → row_of rows x ≡ []) → AreRowsTo whole bounds count 0 rows
  rows_of_none long none = search rules

  -- a row that is put in place of another, and the others
  pub replaced_here : (rows : List (Vec Look A)) {from : ℕ} (row : Vec Look A) → from < length rows → row_of (set rows from row) from ≡ row.items
  replaced_here rows row there = search (rules, length-map, map-set)

  pub replaced_other : (rows : List (Vec Look A)) {from : ℕ} (row : Vec Look A) {x : ℕ} → x ≢ from → row_of (set rows from row) x ≡ row_of rows x
  replaced_other rows row apart = search (rules, map-set)

  -- a row that is read
  pub row_is : (rows : List (Vec Look A)) {x : ℕ} {row : Vec Look A} → x < length rows → row ≡ slice_index_or rows x row → row_of rows x ≡ row.items
  row_is rows below is = search (rules, get_or-map)

  rows_set : {whole : ℕ} {bounds : List Difference} {count seen next from : ℕ} {rows : List (Vec Look A)} (row : Vec Look A) → AreRowsTo whole bounds count seen rows → from < count
      → IsRowTo whole bounds from next row.items → ((x : ℕ) → x ≢ from → IsRowTo whole bounds x seen (row_of rows x) → IsRowTo whole bounds x next (row_of rows x))
      → AreRowsTo whole bounds count next (set rows from row)
  rows_set {from} {rows} row h there here others = record {
    long = length-set rows from row ∙ h.long;
    row = λ x below. elim (cases_eq x from) [
      | inl same ↦ rw same (rw (replaced_here rows {from = from} row (omega (arith, h.long))) here)
      | inr apart ↦ rw (replaced_other rows {from = from} row {x = x} apart) (others x apart (h.row x below))
    ];
  }

  -- the next look in its row
  pub rows_push : {whole : ℕ} {bounds : List Difference} {count seen from : ℕ} {rows : List (Vec Look A)} {old : Vec Look A} (row : Vec Look A) {look : Look} → AreRowsTo whole bounds count seen rows
      → rank look.link ≡ seen → IsLook bounds from look → from < count → old ≡ slice_index_or rows from old → row.items ≡ old.items ++ look ∷ []
      → AreRowsTo whole bounds count (seen + 1) (set rows from row)
  rows_push {whole} {bounds} {count} {seen} {from} {rows} {old} row {look} h at is there read items =
      rows_set row h there
      (rw (items, ← row_is rows (omega (arith, h.long)) read) (row_push whole bounds from seen (row_of rows from) (h.row from there) at is))
      (λ x apart r. row_over whole bounds x seen (row_of rows x) r (λ other equal listed begins.
      apart (sym begins ∙ ap (λ l. (arc_of bounds l).from) (rank_tells other look.link (equal ∙ sym at)) ∙ is.from)))

  -- the next link is not looked at
  pub rows_over : {whole : ℕ} {bounds : List Difference} {count seen : ℕ} {rows : List (Vec Look A)} (link : Link) → AreRowsTo whole bounds count seen rows → rank link ≡ seen
      → ¬ IsListed whole bounds link → AreRowsTo whole bounds count (seen + 1) rows
  rows_over {whole} {bounds} {seen} {rows} link h at none = record {
    long = h.long;
    row = λ x below. row_over whole bounds x seen (row_of rows x) (h.row x below) (λ other equal listed begins. none (rw (rank_tells other link (equal ∙ sym at)) at listed));
  }

  -- a row in place of one that has the same looks
  pub rows_kept : {whole : ℕ} {bounds : List Difference} {count seen from : ℕ} {rows : List (Vec Look A)} {old : Vec Look A} (row : Vec Look A) → AreRowsTo whole bounds count seen rows → from < count
      → old ≡ slice_index_or rows from old → row.items ≡ old.items → AreRowsTo whole bounds count seen (set rows from row)
  rows_kept {whole} {bounds} {count} {seen} {from} {rows} {old} row h there read items =
      rows_set row h there (rw (items, ← row_is rows (omega (arith, h.long)) read) (h.row from there)) (λ x apart r. r)

  -- the rows of the first links of bounds are those of these, with more bounds after them
  pub rows_longer : {direction : Direction} {whole : ℕ} {bounds : List Difference} (more : List Difference) {count : ℕ} {rows : Rows A} → AreFirstRows direction whole bounds count rows
      → AreFirstRows direction whole (bounds ++ more) count rows
  rows_longer {direction} {whole} {bounds} more {rows} h =
      let all = facing direction bounds in
      let rest = facing direction more in
      let far = h.within in
      let long = length_facing direction bounds in
      record {
        faced = h.faced;
        choice = h.choice;
        within = omega (arith, far, length-append bounds more);
        stand = rw (append_facing direction bounds more) (record {
          long = h.stand.long;
          row = λ x below. row_on whole all x rows.added (row_of rows.outgoing.items x) (h.stand.row x below) (λ link low.
              let there = rank_place link (length all) (omega arith) in
              (omega (arith, there, length-append all rest), arc_longer all rest link there));
        });
      }

  -- the same, as the rows themselves say
  pub first_own : {direction : Direction} {whole : ℕ} {bounds : List Difference} {count : ℕ} {rows : Rows A} → AreFirstRows direction whole bounds count rows
      → AreFirstRows rows.direction rows.whole bounds (length rows.outgoing.items) rows
  first_own h = search rules

  -- the looks of a row at links before a place are those of the bounds before it
  pub row_before : (events end x count : ℕ) (bounds : List Difference) (rows : Rows A) → HasRows events end bounds rows → x < events + 1 → IsCutAt (row_of rows.outgoing.items x) end count
      → IsRow (record { direction = rows.direction; whole = rows.whole; events = events; bounds = facing rows.direction (take end bounds) }) x (take count (row_of rows.outgoing.items x))
  row_before events end x count bounds rows h within cut = rw (take_facing rows.direction end bounds) (record {
    every = λ link there. is.every link (rank_within end link (omega (arith, there, shorter)));
    each = λ look has. (is.each look has).0;
    ordered = is.ordered;
  })
    where
      all : List Difference
      all = facing rows.direction bounds

      row : List Look
      row = row_of rows.outgoing.items x

      shorter : length (take end all) ≡ end
      shorter = omega (arith, length-take end all, h.within, length_facing rows.direction bounds)

      is : IsRowTo rows.whole (take end all) x (2 * end) (take count row)
      is =
          row_on rows.whole all x (2 * end) (take count row)
          (row_cut rows.whole all x rows.added row (h.stand.first.stand.row x within) {place = end} {count = count} {next = (2 * end)} cut (omega arith) (λ rank low front. front) (omega (arith, h.stand.all, h.within)))
          {other = (take end all)} (λ link low. (let front = rank_place link end low in (omega (arith, front, shorter), arc_before all {place = end} link front)))

  -- rows of the first links of bounds, without the looks at links of bounds from a place on
  pub rows_cut : {direction : Direction} {whole : ℕ} {bounds : List Difference} (more : List Difference) {count place : ℕ} {old new : Rows A} → place ≡ length bounds
      → AreFirstRows direction whole (bounds ++ more) count old → new.direction ≡ old.direction → new.whole ≡ old.whole
      → length new.outgoing.items ≡ count → ((x : ℕ) → x < count → AreCut (row_of old.outgoing.items x) place (row_of new.outgoing.items x))
      → new.added ≤ 2 * place → ((rank : ℕ) → rank < old.added → rank < 2 * place → rank < new.added) → new.added ≤ old.added → AreFirstRows direction whole bounds count new
  rows_cut {direction} {whole} {bounds} more {place} {old} {new} is h turned chosen long cut fits most less = record {
    faced = turned ∙ h.faced;
    choice = chosen ∙ h.choice;
    within = omega arith;
    stand = record {
      long = long;
      row = λ x below.
          let (n, at, row) = cut x below in
          rw row (row_on whole (facing direction (bounds ++ more)) x new.added (take n (row_of old.outgoing.items x))
          (row_cut whole (facing direction (bounds ++ more)) x old.added (row_of old.outgoing.items x) (h.stand.row x below) at fits most less) same);
    };
  }
    where
      same : (link : Link) → rank link < new.added → (link.place < length (facing direction bounds)) × (arc_of (facing direction bounds) link ≡ arc_of (facing direction (bounds ++ more)) link)
      same link low =
          let there : link.place < length (facing direction bounds) = omega (arith, rank_place link place (omega arith), is, length_facing direction bounds) in
          (there, sym (arc_longer (facing direction bounds) (facing direction more) link there) ∙ ap (λ l. arc_of l link) (sym (append_facing direction bounds more)))
