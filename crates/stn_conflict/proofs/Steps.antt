use Rattle.std.{proofs.{lemmas.{Grind.common_steps, List.{get_or_default, reverse-append}, Bool.cases_lt}, Common.{rules, ◌≡◌, ◌≢◌, inl, inr, ℕ, zero, suc, ◌+◌, ◌*◌, ◌<◌, ◌≤◌, Option, Some, List, [], ◌∷◌, ◌++◌, length, eqb, sym, ap, refl, ◌∙◌, arith, to_z, of_z, w64}}, specs.{Prelude.{ℤ, ◌+ℤ◌, ◌↔◌, IsTrue, reverse, slice_index_or}, List.AllByRecursion}}
use Rattle.stn_time.specs.Time.{IsWithinHorizon}
use Rattle.stn_net.specs.{Difference.Difference, Matrix.Tightest.IsTightest}
use Rattle.stn_conflict.{specs.{declared.{links.Link.Link, outgoing.Look.Look}, Arcs.{arc_of, rank, IsChain}, Named.{IsTight, IsLevel, IsLevelStep, IsFirstStep}, Relaxation.{HasLink, IsRow, Searched}, Search.{across, HasLevels, HasNoStep, IsFirstStepTo}}, proofs.{LevelTable.some_same, OneCycle.side_low}}

-- what a test of a sum of two times says
pub sum_test : {m w n : ℤ} → IsWithinHorizon m → IsWithinHorizon w → IsWithinHorizon n
    → (IsTrue (eqb (of_z w64 (to_z w64 (of_z w64 m) +ℤ to_z w64 (of_z w64 w))) (of_z w64 n)) → m +ℤ w ≡ n)
    × (m +ℤ w ≡ n → IsTrue (eqb (of_z w64 (to_z w64 (of_z w64 m) +ℤ to_z w64 (of_z w64 w))) (of_z w64 n)))
sum_test (ml, mh) (wl, wh) (nl, nh) = search rules

-- a link is tight exactly where its weight is the difference of the tightest differences to its ends
pub tight_decided : {bounds : List Difference} {start : ℕ} {link : Link} {x y : ℕ} {w m n : ℤ} → link.place < length bounds → x ≡ (arc_of bounds link).from → y ≡ (arc_of bounds link).to → w ≡ (arc_of bounds link).weight → IsTightest bounds start x m → IsTightest bounds start y n → (m +ℤ w ≡ n → IsTight bounds start link) × (IsTight bounds start link → m +ℤ w ≡ n)
tight_decided there from to weight near far = search rules

-- a step is a tight link whose entries differ by one
pub step_told : {bounds : List Difference} {start events : ℕ} {levels : ℕ → Option ℕ} {link : Link} {begin end : ℕ} → HasLevels bounds start events levels
    → levels (arc_of bounds link).from ≡ Some begin → levels (arc_of bounds link).to ≡ Some end → IsLevelStep bounds start link ↔ (IsTight bounds start link × (end ≡ suc begin))
step_told {begin} {end} has low high = (
  λ step. (let (level, from, to) = step.level in
      (step.tight, omega (arith, some_same _ level begin ((has.level _ level).1 from) low, some_same _ (suc level) end ((has.level _ (suc level)).1 to) high))),
  λ is. record { tight = is.0; level = (begin, (has.level _ begin).0 low, rw is.1 at ((has.level _ end).0 high)) },
)

-- the links of so many bounds have the first ranks
pub rank_within : (count : ℕ) (link : Link) → link.place < count → rank link < 2 * count
rank_within count link there = omega (arith, side_low link.side)

-- and only these
pub rank_place : (link : Link) (count : ℕ) → rank link < 2 * count → link.place < count
rank_place link count below = omega (arith)

-- a link that stands before another is of no later bound
pub place_of_rank : (one other : Link) → rank one ≤ rank other → one.place ≤ other.place
place_of_rank one other before = omega (arith, side_low other.side)

-- the start alone has the level 0
level_zero : {bounds : List Difference} {start x : ℕ} → IsLevel bounds start x 0 → x ≡ start
level_zero is = grind (arith, common_steps)

-- the link across begins where the link ends, and ends where it begins
across_ends : (bounds : List Difference) (link : Link)
    → ((arc_of bounds (across link)).from ≡ (arc_of bounds link).to) × ((arc_of bounds (across link)).to ≡ (arc_of bounds link).from)
across_ends bounds link = search rules

-- across twice is back
across_twice : {link : Link} → across (across link) ≡ link
across_twice = search rules

-- of the two links of a bound, that before the one across from a link is the link
link_before_across : {one link : Link} → one.place ≡ link.place → rank one < rank (across link) → one ≡ link
link_before_across place before = search rules

-- a step ends at another event
step_leaves : {bounds : List Difference} {start : ℕ} {link : Link} → IsLevelStep bounds start link → (arc_of bounds link).from ≢ (arc_of bounds link).to
step_leaves step same = search rules

-- none of the first links of a row is across from a step
abbrev pub ArePassed : List Difference → ℕ → List Look → ℕ → Type 0
ArePassed bounds start row seen = (k : ℕ) (look : Look) → k < seen → slice_index_or row k look ≡ look → ¬ IsLevelStep bounds start (across look.link)

-- one more
pub passed_more : {bounds : List Difference} {start seen : ℕ} (row : List Look) {look : Look} → seen < length row → slice_index_or row seen look ≡ look
    → ¬ IsLevelStep bounds start (across look.link) → ArePassed bounds start row seen → ArePassed bounds start row (seen + 1)
passed_more row there here none passed = search (rules, get_or_default)

module _ (searched : Searched) (start event seen : ℕ) (row : List Look) (whole : length searched.bounds ≤ searched.whole) (is : IsRow searched event row) where
  -- a link that ends at the event stands in its row, across
  across_in_row : (link : Link) → link.place < length searched.bounds → (arc_of searched.bounds link).to ≡ event → HasLink row (across link)
  across_in_row link there ends = search rules

  -- the first link of the event's row that is across from a step is across from the first step to the event
  pub first_in_row : {look : Look} → seen < length row → slice_index_or row seen look ≡ look → ArePassed searched.bounds start row seen
      → IsLevelStep searched.bounds start (across look.link) → IsFirstStepTo searched.bounds start event (across look.link)
  first_in_row {look} there here passed step =
      let bounds = searched.bounds in
      let link = look.link in
      let begins : (arc_of bounds link).from ≡ event = (is.each look (seen, there, here)).from in
      let ends : (arc_of bounds (across link)).to ≡ event = (across_ends bounds link).1 ∙ begins in
      record {
        ends = ends;
        first = record {
          step = step;
          first = λ other before same other_step.
              let (found, (k, within, at), names) = across_in_row other other_step.tight.there (same ∙ ends) in
              let back : across found.link ≡ other = ap across names ∙ across_twice in
              elim (cases_lt k seen) [
                | inl earlier ↦ passed k found earlier at (rw back other_step)
                | inr later ↦
                    let order = is.ordered seen k look later within in
                    let read : slice_index_or row k look ≡ found = get_or_default row k look found within ∙ at in
                    let place : other.place ≡ link.place = omega (
                      arith,
                      place_of_rank other (across link) (omega arith),
                      order,
                      ap (λ (l : Look). l.link.place) here,
                      ap (λ (l : Look). l.link.place) read,
                      ap (λ (l : Link). l.place) names,
                    ) in
                    let e : other ≡ link = link_before_across place before in
                    step_leaves step ((across_ends bounds link).0 ∙ sym (ap (λ l. (arc_of bounds l).to) e) ∙ same)
              ];
        };
      }

  -- where no link of the event's row is across from a step, none leads to the event
  pub none_in_row : length row ≤ seen → ArePassed searched.bounds start row seen → HasNoStep searched.bounds start event
  none_in_row all passed = search (rules, across_in_row)

-- a step to an event begins one level lower
pub lower_by_one : {bounds : List Difference} {start count x : ℕ} {levels : ℕ → Option ℕ} {link : Link} → HasLevels bounds start count levels
    → IsFirstStepTo bounds start x link → (level : ℕ) × (levels (arc_of bounds link).from ≡ Some level) × (levels x ≡ Some (suc level))
lower_by_one {levels} has h =
    let (level, low, high) = h.first.step.level in
    (level, (has.level _ level).1 low, ap levels (sym h.ends) ∙ (has.level _ (suc level)).1 high)

-- the start alone has no step
pub at_start : {bounds : List Difference} {start count x : ℕ} {levels : ℕ → Option ℕ} → HasLevels bounds start count levels → HasNoStep bounds start x → x < count → x ≡ start
at_start {bounds} {start} {count} {x} {levels} has none within =
    let (level, at) = has.every x within in
    by_level level at
  where
    by_level : (level : ℕ) → levels x ≡ Some level → x ≡ start
    by_level zero at = level_zero ((has.level x 0).0 at)
    by_level (suc level) at =
        let (link, tight, ends, from) = has.back x level at in
        absurd (none link ends ((step_told has from (ap levels ends ∙ at)).1 (tight, refl)))

-- a first step added before a way to its end
pub chain_before_way : {bounds : List Difference} {start here : ℕ} (x : ℕ) (links : List Link) {link : Link} → IsFirstStep bounds start link → (arc_of bounds link).to ≡ here → IsChain bounds (reverse links) here x → AllByRecursion (IsFirstStep bounds start) (reverse links) → IsChain bounds (reverse (links ++ link ∷ [])) (arc_of bounds link).from x × AllByRecursion (IsFirstStep bounds start) (reverse (links ++ link ∷ []))
chain_before_way x links first ends chain all = search (rules, reverse-append)
