use Rattle.std.{proofs.{Common.{rules, ◌≡◌, ◌≢◌, inl, inr, ℕ, suc, ◌+◌, ◌<◌, ◌≤◌, Option, Some, None, lt-ltb, List, [], ◌∷◌, ◌++◌, length, set, replicate, refl, sym, ap, ◌∙◌, arith}, lemmas.{Bool.{cases_eq, cases_lt, or_left}, List.{get_or-set_same, get_or-set_other, get_or-replicate, get_or_past, get_or_append_left, get_or_push, length-set, length-replicate, length_push, Elements.Contains-push_cases, Sums.{sum_by-set, count_by-le-length}}}}, specs.{Prelude.{ℤ, is_some, count_by, slice_index_or}, List.Contains}}
use Rattle.stn_net.specs.Difference.{Difference}
use Rattle.stn_conflict.{specs.{declared.{levels.Walk.Walk, links.Link.Link, outgoing.Look.Look}, Arcs.arc_of, Relaxation.{AreDistances, IsRow, Searched}, Named.IsTight, Search.{level_at, event_at, IsFollowed, IsWalk, IsWalkOf, AreLevels, LeadsOn}}, proofs.LevelTable.{IsClosed, some_or_none, some_same, level_of_entry, entry_of_level, level_of_event}}

-- an event with a level keeps it
keeps_level : (levels marked : ℕ → Option ℕ) (end : ℕ) → levels end ≡ None → ((x : ℕ) → x ≢ end → marked x ≡ levels x) → (x i : ℕ) → levels x ≡ Some i → marked x ≡ Some i
keeps_level levels marked end none others x i e = search rules

-- a link that leads on gives its end the next level, and the walk reaches it
pub walk_reaches : (bounds : List Difference) (start seen level : ℕ) (levels marked : ℕ → Option ℕ) (reached : List ℕ) (link : Link) → IsWalk bounds start seen levels reached → seen < length reached
    → levels (event_at reached seen) ≡ Some level → LeadsOn bounds start levels link → (arc_of bounds link).from ≡ event_at reached seen
    → marked (arc_of bounds link).to ≡ Some (suc level) → ((x : ℕ) → x ≢ (arc_of bounds link).to → marked x ≡ levels x)
    → IsWalk bounds start seen marked (reached ++ (arc_of bounds link).to ∷ [])
walk_reaches bounds start seen level levels marked reached link w there here leads begins gets others =
    let end = (arc_of bounds link).to in
    let kept = keeps_level levels marked (arc_of bounds link).to leads.to others in
    record {
      zero_at_start = kept start 0 w.zero_at_start;
      only = λ x at. search (rules, cases_eq, some_same);
      back = λ x i at.
          elim (cases_eq x end) [
            | inl same ↦
                let e : level ≡ i = omega (arith, some_same (marked x) (suc i) (suc level) at (ap marked same ∙ gets)) in
                (link, leads.tight, sym same, kept _ level (ap levels begins ∙ here) ∙ ap Some e)
            | inr differs ↦
                let (old, tight, ends, from) = w.back x i (sym (others x differs) ∙ at) in
                (old, tight, ends, kept _ i from)
          ];
      every = λ x i at. search (rules, cases_eq, more, last_at, old_at);
      each = λ k below.
          elim (cases_lt k (length reached)) [
            | inl old ↦ (let (i, at, le) = w.each k old in (i, ap marked (old_at k old) ∙ kept _ i at, le))
            | inr new ↦
                let (i, at, le) = w.each seen there in
                (suc level, last_gets k below new, omega (arith, some_same _ level i here at))
          ];
      rising = λ j k i m before below at_j at_k.
          elim (cases_lt j (length reached)) [
            | inr new ↦ omega (arith, some_same _ i (suc level) at_j (last_gets j (omega arith) new), some_same _ m (suc level) at_k (last_gets k below (omega arith)))
            | inl old ↦ elim (cases_lt k (length reached)) [
              | inl old_k ↦ w.rising j k i m before old_k (was j i old at_j) (was k m old_k at_k)
              | inr new ↦ omega (arith, some_same _ m (suc level) at_k (last_gets k below new), w.near j level i there old here (was j i old at_j))
            ]
          ];
      near = λ k i m still below at_seen at_k.
          let e = some_same _ i level (was seen i there at_seen) here in
          elim (cases_lt k (length reached)) [
            | inl old ↦ omega (arith, e, w.near k level m there old here (was k m old at_k))
            | inr new ↦ omega (arith, e, some_same _ m (suc level) at_k (last_gets k below new))
          ];
      followed = λ k i below at other tight from.
          let old : k < length reached = omega arith in
          let (m, m_at, le) = w.followed k i below (was k i old at) other tight (from ∙ old_at k old) in
          (m, kept _ m m_at, le);
    }
  where
    more : length (reached ++ (arc_of bounds link).to ∷ []) ≡ length reached + 1
    more = length_push reached (arc_of bounds link).to

    old_at : (k : ℕ) → k < length reached → event_at (reached ++ (arc_of bounds link).to ∷ []) k ≡ event_at reached k
    old_at k below = get_or_append_left reached ((arc_of bounds link).to ∷ []) 0 k below

    last_at : event_at (reached ++ (arc_of bounds link).to ∷ []) (length reached) ≡ (arc_of bounds link).to
    last_at = get_or_push reached (arc_of bounds link).to 0 (length reached) refl

    last_gets : (k : ℕ) → k < length (reached ++ (arc_of bounds link).to ∷ []) → length reached ≤ k → marked (event_at (reached ++ (arc_of bounds link).to ∷ []) k) ≡ Some (suc level)
    last_gets k below past =
        let e : k ≡ length reached = omega (arith, more) in
        ap (λ z. marked (event_at (reached ++ (arc_of bounds link).to ∷ []) z)) e ∙ ap marked last_at ∙ gets

    was : (k m : ℕ) → k < length reached → marked (event_at (reached ++ (arc_of bounds link).to ∷ []) k) ≡ Some m → levels (event_at reached k) ≡ Some m
    was k m below at =
        let (i, i_at, le) = w.each k below in
        let still = keeps_level levels marked (arc_of bounds link).to leads.to others _ i i_at in
        i_at ∙ ap Some (some_same _ i m still (sym (ap marked (old_at k below)) ∙ at))

-- where each tight link from an event is followed, the walk goes on to the next
pub walk_goes_on : {bounds : List Difference} {start seen level : ℕ} {levels : ℕ → Option ℕ} {reached : List ℕ} → IsWalk bounds start seen levels reached → seen < length reached
    → levels (event_at reached seen) ≡ Some level
    → ((link : Link) → IsTight bounds start link → (arc_of bounds link).from ≡ event_at reached seen → IsFollowed bounds levels link level)
    → IsWalk bounds start (seen + 1) levels reached
walk_goes_on w there here all = search rules

-- an event that gets a level is one more that has one
pub count_marked : (levels : List (Option ℕ)) {x : ℕ} (k : ℕ) → x < length levels → level_at levels x ≡ None → count_by is_some (set levels x (Some k)) ≡ count_by is_some levels + 1
count_marked levels k there none = search (rules, sum_by-set)

-- a table that is made of nothing has nothing
none_in_replicate : {X : Type 0} {table : List (Option X)} (n : ℕ) → table ≡ replicate n None → (x : ℕ) → slice_index_or table x None ≡ None
none_in_replicate {X} n e x = search (rules, get_or-replicate, get_or_past, length-replicate)

-- where each event that a walk reached is followed, each has its level
pub levels_of_walk : {bounds : List Difference} {far : List ℤ} {start seen : ℕ} {levels : List (Option ℕ)} {reached : List ℕ} → AreDistances bounds start far → length levels ≡ length far
    → length reached ≤ count_by is_some levels → IsWalk bounds start seen (level_at levels) reached → length reached ≤ seen → AreLevels bounds start (length far) levels
levels_of_walk {bounds} {far} {start} {levels} exact whole counted w all =
    let closed : IsClosed bounds start (level_at levels) = record {
      zero_at_start = w.zero_at_start;
      only = w.only;
      back = w.back;
      on = λ link tight i from. (let (k, below, is) = w.every _ i from in w.followed k i (omega arith) (ap (level_at levels) is ∙ from) link tight (sym is));
    } in
    record {
      whole = whole;
      levels = record {
        level = λ x k. (level_of_entry closed, entry_of_level closed);
        every = level_of_event bounds far start (level_at levels) exact closed;
        back = w.back;
        most = λ x i at. search (rules, count_by-le-length, some_same);
      };
    }

-- an event with an entry is one of the table
pub level_there : (levels : List (Option ℕ)) {x i : ℕ} → level_at levels x ≡ Some i → x < length levels
level_there levels at = search (rules, get_or_past)

module _ {A : Type 0} where
  -- the walk that has reached its start alone
  pub walk_of_start : {bounds : List Difference} {start count : ℕ} {walk : Walk A} → start < count → walk.levels.items ≡ set (replicate count None) start (Some 0) → walk.reached.items ≡ start ∷ []
      → IsWalkOf bounds start count 0 walk
  walk_of_start within marked reached = search (rules, length-replicate, none_in_replicate, count_marked)

  -- an event that the walk has reached is one of the table, and has a level
  pub reached_at : {bounds : List Difference} {start count seen place x : ℕ} {walk : Walk A} → IsWalkOf bounds start count seen walk → place < length walk.reached.items → x ≡ event_at walk.reached.items place
      → (i : ℕ) × (x < count) × (level_at walk.levels.items x ≡ Some i)
  reached_at {place} {x} {walk} w there is =
      let (i, at, le) = w.steps.each place there in
      let here = ap (level_at walk.levels.items) is ∙ at in
      (i, omega (arith, level_there walk.levels.items here, w.whole), here)

  -- a walk that follows the links of an event that it has reached: so far these
  pub record IsFollowing (bounds : List Difference) (start count seen level event : ℕ) (row : List Look) (walk : Walk A) : Type 0 where
    pub so_far : IsWalkOf bounds start count seen walk
    pub there : seen < length walk.reached.items
    pub here : event_at walk.reached.items seen ≡ event
    pub marked : level_at walk.levels.items event ≡ Some level
    pub followed : (look : Look) → Contains row look → IsTight bounds start look.link → IsFollowed bounds (level_at walk.levels.items) look.link level

  -- no level is above the number of the events that got theirs before
  pub level_low : {bounds : List Difference} {start count seen level event : ℕ} {row : List Look} {walk : Walk A} → IsFollowing bounds start count seen level event row walk → level < count
  level_low h = search (rules, count_by-le-length)

  -- at first none of them
  pub following_begins : {bounds : List Difference} {start count seen level event : ℕ} {row : List Look} {walk : Walk A} → IsWalkOf bounds start count seen walk → seen < length walk.reached.items
      → event_at walk.reached.items seen ≡ event → level_at walk.levels.items event ≡ Some level → row ≡ [] → IsFollowing bounds start count seen level event row walk
  following_begins w there here at none = search rules

  -- a link that leads on: its end is reached
  pub following_reaches : {bounds : List Difference} {start count seen level event x : ℕ} {row : List Look} {walk next : Walk A} (look : Look) → IsFollowing bounds start count seen level event row walk
      → LeadsOn bounds start (level_at walk.levels.items) look.link → (arc_of bounds look.link).from ≡ event → x ≡ (arc_of bounds look.link).to → x < count
      → next.levels.items ≡ set walk.levels.items x (Some (level + 1)) → next.reached.items ≡ walk.reached.items ++ x ∷ []
      → IsFollowing bounds start count seen level event (row ++ look ∷ []) next
  following_reaches {bounds} {start} {seen} {level} {event} {x} {row} {walk} {next} look h leads begins to within marked longer =
      let old = walk.levels.items in
      let link = look.link in
      let there : x < length old = omega (arith, h.so_far.whole) in
      let more : level + 1 ≡ suc level = omega arith in
      let gets : level_at next.levels.items (arc_of bounds link).to ≡ Some (suc level) =
      ap (λ l. level_at l (arc_of bounds link).to) marked ∙ ap (level_at (set old x (Some (level + 1)))) (sym to) ∙ get_or-set_same old x (Some (level + 1)) None there ∙ ap Some more in
      let others : (y : ℕ) → y ≢ (arc_of bounds link).to → level_at next.levels.items y ≡ level_at old y = λ y apart.
      ap (λ l. level_at l y) marked ∙ get_or-set_other old x y (Some (level + 1)) None (λ same. apart (same ∙ to)) in
      let kept = keeps_level (level_at old) (level_at next.levels.items) (arc_of bounds link).to leads.to others in
      let steps = walk_reaches bounds start seen level (level_at old) (level_at next.levels.items) walk.reached.items link h.so_far.steps h.there (ap (level_at old) h.here ∙ h.marked) leads (begins ∙ sym h.here) gets others in
      let grown : next.reached.items ≡ walk.reached.items ++ (arc_of bounds link).to ∷ [] = longer ∙ ap (λ z. walk.reached.items ++ z ∷ []) to in
      record {
        so_far = record {
          whole = ap length marked ∙ length-set old x (Some (level + 1)) ∙ h.so_far.whole;
          counted = omega (arith, ap length longer, length_push walk.reached.items x, h.so_far.counted, ap (count_by (is_some {T = ℕ})) marked, count_marked old (level + 1) there (ap (level_at old) to ∙ leads.to));
          steps = rw grown steps;
        };
        there = omega (arith, h.there, ap length longer, length_push walk.reached.items x);
        here = ap (λ l. event_at l seen) longer ∙ get_or_append_left walk.reached.items (x ∷ []) 0 seen h.there ∙ h.here;
        marked = kept event level h.marked;
        followed = λ other has tight.
            elim (Contains-push_cases row look other has) [
              | inl before ↦ (let (k, at, le) = h.followed other before tight in (k, kept _ k at, le))
              | inr same ↦ (suc level, ap (λ (l : Look). level_at next.levels.items (arc_of bounds l.link).to) (sym same) ∙ gets, omega arith)
            ];
      }

  -- a link that does not lead on is not tight, or leads to a level
  pub following_passes : {bounds : List Difference} {start count seen level event : ℕ} {row : List Look} {walk : Walk A} (look : Look) → IsFollowing bounds start count seen level event row walk
      → ¬ LeadsOn bounds start (level_at walk.levels.items) look.link → IsFollowing bounds start count seen level event (row ++ look ∷ []) walk
  following_passes {bounds} {level} {row} {walk} look h stays = record {
    so_far = h.so_far;
    there = h.there;
    here = h.here;
    marked = h.marked;
    followed = λ other has tight.
        elim (Contains-push_cases row look other has) [
          | inl before ↦ h.followed other before tight
          | inr same ↦ elim (some_or_none (level_at walk.levels.items (arc_of bounds other.link).to)) [
            | inl none ↦ absurd (stays (rw same (record { tight = tight; to = none })))
            | inr (k, at) ↦
                let w = h.so_far.steps in
                let (place, below, is) = w.every _ k at in
                (k, at, w.near place level k h.there below (ap (level_at walk.levels.items) h.here ∙ h.marked) (ap (level_at walk.levels.items) is ∙ at))
          ]
        ];
  }

  -- where all are followed, the walk goes on to the next event
  pub following_ends : {searched : Searched} {start count seen level event : ℕ} {row : List Look} {walk : Walk A} → length searched.bounds ≤ searched.whole → IsRow searched event row
      → IsFollowing searched.bounds start count seen level event row walk → IsWalkOf searched.bounds start count (seen + 1) walk
  following_ends {searched} {start} {seen} {level} {walk} whole is h = record {
    whole = h.so_far.whole;
    counted = h.so_far.counted;
    steps = walk_goes_on h.so_far.steps h.there (ap (level_at walk.levels.items) h.here ∙ h.marked)
        (λ link tight from.
        let (look, has, names) = is.every link tight.there (or_left _ _ (lt-ltb link.place searched.whole (omega (arith, tight.there)))) (from ∙ h.here) in
        rw names at (h.followed look has (rw names tight)));
  }
