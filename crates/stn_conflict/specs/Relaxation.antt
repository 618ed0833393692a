-- For proofs alone: no public clause cites these words.
use Rattle.std.specs.{Prelude.{◌≡◌, ◌≢◌, ◌⊎◌, set, Result, IsErr, OnOk, ℕ, ℤ, pos, neg_ℤ, ◌+ℤ◌, ◌-ℤ◌, ◌≤ℤ◌, ◌<ℤ◌, ◌<◌, ◌≤◌, ◌+◌, ◌*◌, Bool, true, false, ◌||◌, nat_lt, int_lt, IsTrue, List, [], length, map, take, All, Contains, Vec, slice_index_or}, List.Sorted.IsNonDecreasingBy}
use Rattle.stn_time.specs.Time.{horizon}
use Rattle.stn_net.specs.{Event.most_events, Difference.{Difference, NamesEvents}, Schedule.{IsSchedule, times_of}, Matrix.Tightest.IsTightest}
use Rattle.stn_conflict.specs.{declared.{arcs.Direction.{Direction, TheVariants.{Forward, Backward}}, links.Link.Link, outgoing.{Look.Look, Rows.Rows}, relaxation.Search.Search, windows.Ends.Ends}, Arcs.{arc_of, bound_at, rank}, Directions.facing}

-- both events of the bound are among the first so many
abbrev pub NamesAmong : ℕ → Difference → Type 0
NamesAmong count bound = (bound.from < count) × (bound.to < count)

-- by these times the link's end comes no later after its beginning than the link allows
abbrev pub IsRelaxed : List Difference → (ℕ → ℤ) → Link → Type 0
IsRelaxed bounds times link = times (arc_of bounds link).to ≤ℤ (times (arc_of bounds link).from +ℤ (arc_of bounds link).weight)

-- and so for each link
abbrev pub AreRelaxed : List Difference → (ℕ → ℤ) → Type 0
AreRelaxed bounds times = (link : Link) → link.place < length bounds → IsRelaxed bounds times link

-- the link is looked at, where all links of the first so many bounds are: it is one of these, or says more than the horizon
abbrev pub IsListed : ℕ → List Difference → Link → Type 0
IsListed whole bounds link = IsTrue (nat_lt link.place whole || int_lt (arc_of bounds link).weight horizon)

-- by these times each link that is looked at is relaxed
abbrev pub AreLimited : ℕ → List Difference → (ℕ → ℤ) → Type 0
AreLimited whole bounds times = (link : Link) → link.place < length bounds → IsListed whole bounds link → IsRelaxed bounds times link

-- the bounds are about so many events and the origin, and the first of them, one for each event, and what says more than the horizon keep any
-- two of these within the horizon of each other
pub record IsNetwork (events : ℕ) (bounds : List Difference) : Type 0 where
  pub named : All (NamesEvents events) bounds
  pub apart : (time : ℕ → ℤ) → AreLimited events bounds time → (x y : ℕ) → x ≤ events → y ≤ events → (time y -ℤ time x) ≤ℤ horizon

-- in no schedule of the bounds does an event come later after `start` than its estimate says, and `start` itself is
-- estimated at 0 (Cormen, Leiserson, Rivest and Stein, 2009)
pub record AreEstimates (bounds : List Difference) (start : ℕ) (far : List ℤ) : Type 0 where
  pub named : All (NamesAmong (length far)) bounds
  pub start_named : start < length far
  pub own : times_of far start ≡ pos 0
  pub sound : (time : ℕ → ℤ) → IsSchedule bounds time → (x : ℕ) → x < length far → (time x -ℤ time start) ≤ℤ times_of far x
  pub least : (time : ℕ → ℤ) → IsSchedule bounds time → (x : ℕ) → x < length far → neg_ℤ horizon ≤ℤ (time x -ℤ time start)

-- the distances are the tightest differences from `start` to each event
pub record AreDistances (bounds : List Difference) (start : ℕ) (far : List ℤ) : Type 0 where
  pub named : All (NamesAmong (length far)) bounds
  pub start_named : start < length far
  pub tightest : (x : ℕ) → x < length far → IsTightest bounds start x (times_of far x)

-- the event's estimate was lowered since its links were relaxed
abbrev pub is_fresh : List Bool → ℕ → Bool
is_fresh fresh event = slice_index_or fresh event true

-- each link that is looked at from an event whose estimate is not fresh is relaxed
abbrev pub IsRelaxedBut : ℕ → List Difference → List ℤ → List Bool → Type 0
IsRelaxedBut whole bounds far fresh = (link : Link) → link.place < length bounds → IsListed whole bounds link
    → is_fresh fresh (arc_of bounds link).from ≡ false → IsRelaxed bounds (times_of far) link

-- each table has one entry for each of so many events, and an estimate was lowered by a link from one of these
pub record AreTables (count : ℕ) (estimates : List ℤ) (sources : List ℕ) (marks : List Bool) : Type 0 where
  pub few : count ≤ most_events + 1
  pub far : length estimates ≡ count
  pub by : length sources ≡ count
  pub among : All (λ event. event < count) sources
  pub fresh : length marks ≡ count

-- the search has tables of so many events
abbrev pub HasTables : {A : Type 0} → ℕ → Search A → Type 0
HasTables count search = AreTables count search.far.items search.by.items search.fresh.items

-- bounds as a search looks at them, turned round where the direction is backward; they are about so many events beside the origin
pub record Searched : Type 0 where
  pub direction : Direction
  pub whole : ℕ
  pub events : ℕ
  pub bounds : List Difference

-- there is an estimate for each of the events, 0 for the start
pub record AreBegun (searched : Searched) (start : ℕ) (far : List ℤ) (by : List ℕ) (fresh : List Bool) : Type 0 where
  pub tables : AreTables (searched.events + 1) far by fresh
  pub network : IsNetwork searched.events searched.bounds
  pub kept : searched.events ≤ searched.whole
  pub named : All (NamesAmong (searched.events + 1)) searched.bounds
  pub start_named : start < searched.events + 1
  pub own : times_of far start ≡ pos 0

-- the search has begun with them
abbrev pub IsBegun : {A : Type 0} → Searched → Search A → Type 0
IsBegun searched search = AreBegun searched search.start search.far.items search.by.items search.fresh.items

-- the search has estimates of the distances of so many events from `start`
pub record IsSearch {A : Type 0} (bounds : List Difference) (start count : ℕ) (search : Search A) : Type 0 where
  pub tables : HasTables count search
  pub from : search.start ≡ start
  pub estimates : AreEstimates bounds start search.far.items

-- times that relax each link, lie within the horizon of `start`, and are no later than the estimates
pub record IsFloor (bounds : List Difference) (start : ℕ) (far : List ℤ) (low : ℕ → ℤ) : Type 0 where
  pub own : low start ≡ pos 0
  pub within : (x : ℕ) → x < length far → neg_ℤ horizon ≤ℤ low x
  pub below : (x : ℕ) → x < length far → low x ≤ℤ times_of far x
  pub met : AreRelaxed bounds low

-- none of the estimates rose, and none fell below a floor
pub record Lowers (bounds : List Difference) (start : ℕ) (old new : List ℤ) : Type 0 where
  pub long : length new ≡ length old
  pub fall : (x : ℕ) → times_of new x ≤ℤ times_of old x
  pub floors : (low : ℕ → ℤ) → IsFloor bounds start old low → IsFloor bounds start new low

-- an event is fresh if it was or its estimate fell, and no other is
pub record Freshens (old : List ℤ) (old_fresh : List Bool) (new : List ℤ) (new_fresh : List Bool) : Type 0 where
  pub kept : (x : ℕ) → is_fresh new_fresh x ≡ false → (is_fresh old_fresh x ≡ false) × (times_of new x ≡ times_of old x)
  pub others : (x : ℕ) → times_of new x ≡ times_of old x → is_fresh old_fresh x ≡ false → is_fresh new_fresh x ≡ false

-- the estimate of the event fell
pub record HasFallen (old new : List ℤ) (event : ℕ) : Type 0 where
  pub there : event < length new
  pub less : times_of new event <ℤ times_of old event

-- the link is relaxed, if the estimate of the event from which it leads is not fresh
abbrev pub IsRelaxedOf : List Difference → List ℤ → List Bool → Link → Type 0
IsRelaxedOf bounds far fresh link = is_fresh fresh (arc_of bounds link).from ≡ false → IsRelaxed bounds (times_of far) link

-- the links from the event were relaxed, or no floor is left
pub record RelaxesFrom {T E : Type 0} (searched : Searched) (start event : ℕ) (old : List ℤ) (old_fresh : List Bool) (new : List ℤ) (by : List ℕ) (fresh : List Bool) (result : Result T E) : Type 0 where
  pub begun : AreBegun searched start new by fresh
  pub lowers : Lowers searched.bounds start old new
  pub freshens : Freshens old old_fresh new fresh
  pub refused : IsErr result → (low : ℕ → ℤ) → ¬ IsFloor searched.bounds start old low
  pub relaxed : OnOk result ((link : Link) → link.place < length searched.bounds → IsListed searched.whole searched.bounds link → (arc_of searched.bounds link).from ≡ event
      → IsRelaxedOf searched.bounds new fresh link)

-- a way to an event was shorter than its estimate, which it lowered
pub record IsLowered (start event : ℕ) (way : ℤ) (far : List ℤ) (fresh : List Bool) (new : List ℤ) (new_fresh : List Bool) : Type 0 where
  pub less : way <ℤ times_of far event
  pub apart : event ≢ start
  pub far_is : new ≡ set far event way
  pub fresh_is : new_fresh ≡ set fresh event true

-- it was not
pub record IsKept (event : ℕ) (way : ℤ) (far : List ℤ) (fresh : List Bool) (new : List ℤ) (new_fresh : List Bool) : Type 0 where
  pub most : times_of far event ≤ℤ way
  pub far_is : new ≡ far
  pub fresh_is : new_fresh ≡ fresh

-- it was, and leads to the start, or to before the horizon
pub record LeavesNoFloor (start event : ℕ) (way : ℤ) (far : List ℤ) (fresh : List Bool) (new : List ℤ) (new_fresh : List Bool) : Type 0 where
  pub less : way <ℤ times_of far event
  pub cause : (event ≡ start) ⊎ (way <ℤ neg_ℤ horizon)
  pub far_is : new ≡ far
  pub fresh_is : new_fresh ≡ fresh

-- some link of the bounds leads from the one event to the other, and has this weight
abbrev pub IsArcBetween : List Difference → ℕ → ℕ → ℤ → Type 0
IsArcBetween bounds from to weight = (link : Link) × (link.place < length bounds) × (arc_of bounds link ≡ record { from = from; to = to; weight = weight })

-- the looks of the row at a place
abbrev pub row_of : {A : Type 0} → List (Vec Look A) → ℕ → List Look
row_of rows place = slice_index_or (map (λ row. row.items) rows) place []

-- the look is at a link of the bounds that begins at the event
pub record IsLook (bounds : List Difference) (event : ℕ) (look : Look) : Type 0 where
  pub there : look.link.place < length bounds
  pub from : (arc_of bounds look.link).from ≡ event
  pub to : (arc_of bounds look.link).to ≡ look.to
  pub weight : (arc_of bounds look.link).weight ≡ look.weight

-- one of the looks is at the link
abbrev pub HasLink : List Look → Link → Type 0
HasLink looks link = (look : Look) × Contains looks look × (look.link ≡ link)

-- of the links of rank below `seen` that begin at the event, those that are to be are looked at, and nothing else is, in the order of the bounds
pub record IsRowTo (whole : ℕ) (bounds : List Difference) (event seen : ℕ) (row : List Look) : Type 0 where
  pub every : (link : Link) → rank link < seen → IsListed whole bounds link → (arc_of bounds link).from ≡ event → HasLink row link
  pub each : (look : Look) → Contains row look → IsLook bounds event look × (rank look.link < seen)
  pub ordered : IsNonDecreasingBy (λ look. look.link.place) row

-- there is such a row for each of so many events
pub record AreRowsTo {A : Type 0} (whole : ℕ) (bounds : List Difference) (count seen : ℕ) (rows : List (Vec Look A)) : Type 0 where
  pub long : length rows ≡ count
  pub row : (x : ℕ) → x < count → IsRowTo whole bounds x seen (row_of rows x)

-- the links that were added are the first ones of the bounds, or of the bounds turned round
pub record AreFirstRows {A : Type 0} (direction : Direction) (whole : ℕ) (bounds : List Difference) (count : ℕ) (rows : Rows A) : Type 0 where
  pub faced : rows.direction ≡ direction
  pub choice : rows.whole ≡ whole
  pub within : rows.added ≤ 2 * length bounds
  pub stand : AreRowsTo whole (facing direction bounds) count rows.added rows.outgoing.items

-- and all of them
pub record AreRows {A : Type 0} (direction : Direction) (whole : ℕ) (bounds : List Difference) (count : ℕ) (rows : Rows A) : Type 0 where
  pub first : AreFirstRows direction whole bounds count rows
  pub all : rows.added ≡ 2 * length bounds

-- the rows are those of the bounds, which are about so many events beside the origin, and of which `end` count
pub record HasRows {A : Type 0} (events end : ℕ) (bounds : List Difference) (rows : Rows A) : Type 0 where
  pub within : end ≤ length bounds
  pub named : All (NamesAmong (events + 1)) bounds
  pub stand : AreRows rows.direction rows.whole bounds (events + 1) rows

-- so many looks are at links of bounds before the place, and no more
pub record IsCutAt (row : List Look) (place count : ℕ) : Type 0 where
  pub within : count ≤ length row
  pub before : (k : ℕ) (look : Look) → k < count → (slice_index_or row k look).link.place < place
  pub behind : (k : ℕ) (look : Look) → count ≤ k → k < length row → place ≤ (slice_index_or row k look).link.place

-- the looks are at the links of the bounds that begin at the event and are looked at, in the order of the bounds
pub record IsRow (searched : Searched) (event : ℕ) (looks : List Look) : Type 0 where
  pub every : (link : Link) → link.place < length searched.bounds → IsListed searched.whole searched.bounds link
      → (arc_of searched.bounds link).from ≡ event → HasLink looks link
  pub each : (look : Look) → Contains looks look → IsLook searched.bounds event look
  pub ordered : IsNonDecreasingBy (λ look. look.link.place) looks

-- the search for how late each event can come has only links from events with fresh estimates left
pub record IsPending {A : Type 0} (events : ℕ) (bounds : List Difference) (latest : Search A) : Type 0 where
  pub late : IsSearch bounds 0 (events + 1) latest
  pub relaxed : IsRelaxedBut events bounds latest.far.items latest.fresh.items

-- the bounds of a plan with so many events can be searched, once all their links are added
pub record CanBeSearched {A : Type 0} (events : ℕ) (bounds : List Difference) (rows : Rows A) (latest search : Search A) : Type 0 where
  pub few : events ≤ most_events
  pub network : IsNetwork events bounds
  pub first : AreFirstRows Forward events bounds (events + 1) rows
  pub pending : IsPending events bounds latest
  pub tables : HasTables (events + 1) search

-- the rows are those of the bounds, or of the bounds turned round, and the search has found the distances over them
pub record HasFound {A : Type 0} (direction : Direction) (events : ℕ) (bounds : List Difference) (event : ℕ) (rows : Rows A) (search : Search A) : Type 0 where
  pub rows_are : AreRows direction events bounds (events + 1) rows
  pub tables : HasTables (events + 1) search
  pub start : search.start ≡ event
  pub far : AreDistances (facing direction bounds) event search.far.items

-- the rows are those of the first so many of the bounds, and the search has found the distances from the origin over all of them
pub record IsEnds {A : Type 0} (direction : Direction) (events given : ℕ) (bounds : List Difference) (ends : Ends A) : Type 0 where
  pub rows_are : AreRows direction events (take given bounds) (events + 1) ends.rows
  pub tables : HasTables (events + 1) ends.search
  pub start : ends.search.start ≡ 0
  pub far : AreDistances (facing direction bounds) 0 ends.search.far.items

-- each bound after the first so many is on a single event
abbrev pub AreSingle : ℕ → List Difference → Type 0
AreSingle given bounds = (place : ℕ) → given ≤ place → place < length bounds → (bound_at bounds place).from ≡ 0

-- the ends of the windows of the bounds, which are about so many events beside the origin
pub record AreEnds {A : Type 0} (events given : ℕ) (bounds : List Difference) (latest earliest : Ends A) : Type 0 where
  pub few : events ≤ most_events
  pub within : given ≤ length bounds
  pub network : IsNetwork events (take given bounds)
  pub named : All (NamesEvents events) bounds
  pub single : AreSingle given bounds
  pub latest_are : IsEnds Forward events given bounds latest
  pub earliest_are : IsEnds Backward events given bounds earliest
