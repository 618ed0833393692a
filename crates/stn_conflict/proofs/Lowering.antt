-- How links lower estimates.
use Rattle.std.{proofs.{lemmas.{Grind.common_steps, Int.ints}, Common.{rules, ◌≡◌, ◌≢◌, ℕ, ◌+◌, ◌-◌, ◌<◌, Bool, true, false, List, length, set, sym, ap, ◌∙◌, arith}}, specs.Prelude.{ℤ, ◌+ℤ◌, ◌≤ℤ◌, ◌<ℤ◌}}
use Rattle.stn_net.specs.{Difference.Difference, Schedule.times_of}
use Rattle.stn_conflict.specs.{declared.links.Link.Link, Arcs.arc_of, Relaxation.{AreRelaxed, Freshens, HasFallen, IsFloor, IsListed, IsRelaxed, IsRelaxedBut, Lowers, is_fresh}}

-- nothing is lowered
pub lowers_none : {bounds : List Difference} {start : ℕ} {far : List ℤ} → Lowers bounds start far far
lowers_none = search rules

module _ (bounds : List Difference) (start : ℕ) (old mid new : List ℤ) (first : Lowers bounds start old mid) (next : Lowers bounds start mid new) where
  -- one lowering after the other
  pub lowers_on : Lowers bounds start old new
  lowers_on = record {
    long = next.long ∙ first.long;
    fall = λ x. (let a = first.fall x in let b = next.fall x in omega (arith, ints));
    floors = λ low h. next.floors low (first.floors low h);
  }

  pub freshens_on : {old_fresh mid_fresh new_fresh : List Bool} → Freshens old old_fresh mid mid_fresh → Freshens mid mid_fresh new new_fresh → Freshens old old_fresh new new_fresh
  freshens_on one other = search rules

-- an estimate that is fresh only if it fell fell
pub fallen_fresh : {bounds : List Difference} {start : ℕ} {old new : List ℤ} (fresh : List Bool) {x : ℕ} → Lowers bounds start old new → x < length new
    → (times_of new x ≡ times_of old x → is_fresh fresh x ≡ false) → is_fresh fresh x ≡ true → HasFallen old new x
fallen_fresh fresh lowers there stale is = search rules

-- a link that was relaxed is so still, if the estimate of the event at which it begins did not fall
pub still_relaxed : {bounds : List Difference} {start : ℕ} (link : Link) {old : List ℤ} {old_fresh : List Bool} {new : List ℤ} {new_fresh : List Bool}
    → Lowers bounds start old new → Freshens old old_fresh new new_fresh → is_fresh new_fresh (arc_of bounds link).from ≡ false
    → (is_fresh old_fresh (arc_of bounds link).from ≡ false → IsRelaxed bounds (times_of old) link) → IsRelaxed bounds (times_of new) link
still_relaxed link lowers freshens stale relaxed = search rules

-- after all links of its row are relaxed, an event needs not be fresh
pub row_relaxed : (whole : ℕ) {bounds : List Difference} {start event : ℕ} {old : List ℤ} (fresh : List Bool) {new : List ℤ} {new_fresh : List Bool} → IsRelaxedBut whole bounds old fresh
    → Lowers bounds start old new → Freshens old (set fresh event false) new new_fresh
    → ((link : Link) → link.place < length bounds → IsListed whole bounds link → (arc_of bounds link).from ≡ event → is_fresh new_fresh (arc_of bounds link).from ≡ false
    → IsRelaxed bounds (times_of new) link) → IsRelaxedBut whole bounds new new_fresh
row_relaxed whole fresh before lowers freshens looked = search rules

-- an event that is not fresh after one is made so was not fresh before
pub stale_before : (fresh : List Bool) {x : ℕ} (y : ℕ) → x < length fresh → is_fresh (set fresh x true) y ≡ false → is_fresh fresh y ≡ false
stale_before fresh y there stale = search rules

module _ (far : List ℤ) (x : ℕ) (way : ℤ) (there : x < length far) (less : way <ℤ times_of far x) where
  -- one estimate falls, and the others stay
  pub fallen_other : {y : ℕ} → y ≢ x → times_of (set far x way) y ≡ times_of far y
  fallen_other differs = search rules

  pub falls : (y : ℕ) → times_of (set far x way) y ≤ℤ times_of far y
  falls y = search rules

  -- a floor is one still, if the estimate does not fall below it
  pub floor_kept : {bounds : List Difference} {start : ℕ} {low : ℕ → ℤ} → IsFloor bounds start far low → low x ≤ℤ way → IsFloor bounds start (set far x way) low
  floor_kept h most = search rules

  -- where each link was relaxed, those are that begin elsewhere
  pub relaxed_elsewhere : (whole : ℕ) (bounds : List Difference) (fresh : List Bool) → x < length fresh → AreRelaxed bounds (times_of far) → IsRelaxedBut whole bounds (set far x way) (set fresh x true)
  relaxed_elsewhere whole bounds fresh within met = grind (arith, common_steps, falls, ints)

  -- if none falls below a floor
  pub lowered_at : (bounds : List Difference) (start : ℕ) → ((low : ℕ → ℤ) → IsFloor bounds start far low → low x ≤ℤ way) → Lowers bounds start far (set far x way)
  lowered_at bounds start above = search rules

  -- and the event is fresh then
  pub freshened_at : (fresh : List Bool) → x < length fresh → Freshens far fresh (set far x way) (set fresh x true)
  freshened_at fresh within = search rules

  -- so the link by which it fell is relaxed
  pub relaxed_now : (bounds : List Difference) (fresh : List Bool) (link : Link) → x < length fresh → x ≡ (arc_of bounds link).to
      → (is_fresh fresh (arc_of bounds link).from ≡ false → way ≡ times_of far (arc_of bounds link).from +ℤ (arc_of bounds link).weight) → is_fresh (set fresh x true) (arc_of bounds link).from ≡ false
      → IsRelaxed bounds (times_of (set far x way)) link
  relaxed_now bounds fresh link within to is stale = search rules

-- the event whose turn it is in a sweep, after so many others
abbrev pub turn_of : Bool → ℕ → ℕ → ℕ
turn_of true count k = k
turn_of false count k = count - 1 - k

-- of the first events of a sweep only those are fresh whose estimates fell
abbrev pub AreSwept : Bool → ℕ → ℕ → List ℤ → List ℤ → List Bool → Type 0
AreSwept onward count seen old new fresh = (k : ℕ) → k < seen → times_of new (turn_of onward count k) ≡ times_of old (turn_of onward count k)
    → is_fresh fresh (turn_of onward count k) ≡ false

-- one more that is not fresh
pub swept_over : (onward : Bool) (count : ℕ) {seen event : ℕ} (old new : List ℤ) (fresh : List Bool) → event ≡ turn_of onward count seen → is_fresh fresh event ≡ false
    → AreSwept onward count seen old new fresh → AreSwept onward count (seen + 1) old new fresh
swept_over onward count old new fresh turn stale before = search rules

-- one more, whose links were relaxed
pub swept_more : {bounds : List Difference} {start : ℕ} (onward : Bool) (count : ℕ) {seen event : ℕ} {old mid : List ℤ} (fresh : List Bool) {new : List ℤ} {new_fresh : List Bool}
    → event ≡ turn_of onward count seen → event < length fresh → Lowers bounds start old mid → Lowers bounds start mid new → Freshens mid (set fresh event false) new new_fresh
    → AreSwept onward count seen old mid fresh → AreSwept onward count (seen + 1) old new new_fresh
swept_more onward count fresh turn there first next freshens before = search rules

-- after a sweep only those events are fresh whose estimates fell
pub all_swept : (onward : Bool) {count : ℕ} (old new : List ℤ) (fresh : List Bool) → AreSwept onward count count old new fresh
    → {x : ℕ} → x < count → times_of new x ≡ times_of old x → is_fresh fresh x ≡ false
all_swept true old new fresh swept {x} below same = swept x below same
all_swept false {count} old new fresh swept {x} below same =
    let back : count - 1 - (count - 1 - x) ≡ x = omega arith in
    ap (is_fresh fresh) (sym back) ∙ swept (count - 1 - x) (omega arith) (ap (times_of new) back ∙ same ∙ ap (times_of old) (sym back))
