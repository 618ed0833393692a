-- What `why` prints of an event, and of two.
use Rattle.std.specs.{Prelude.{◌≡◌, ◌⊎◌, ◌<◌, ℕ, ℤ, neg_ℤ, ◌+◌, List, ◌++◌, codes}, List.flat_map}
use Rattle.stn_time.specs.Text.{printed}
use Rattle.stn_net.specs.{Difference.Difference, Schedule.HasSchedule, Windows.Window.IsWindow, Ranges.IsRange}
use Rattle.stn_lift.specs.PlanSource.{PlanSource, base_bounds, events_of}
use Rattle.stn_records.specs.Content.{Content}
use Rattle.stn_conflict.specs.{declared.links.{Link.Link, BothWays.BothWays}, Arcs.weight_of, Named.{IsWay, IsWayOf}}
use Rattle.stn_site.specs.{Bounds.{all_bounds, live_bounds}, Names.live_ids, Lines.{line, range_line, window_line, link_line}, Report.{is_done, IsConflictPart}}

-- `<word> <time>`, and the line of each link
abbrev pub end_text : PlanSource → Content → List ℕ → ℤ → List Link → List ℕ
end_text source state word time links =
    line (word ++ codes " " ++ printed time) ++ flat_map (link_line (base_bounds source) (live_ids state) (live_bounds state)) links

-- the ways between two events, which hold the least and the greatest time from the one to the other: from `to` to `from`, and back
pub record HoldEnds {A : Type 0} (source : PlanSource) (state : Content) (from to : ℕ) (ends : BothWays A) : Type 0 where
  pub onward : IsWayOf (all_bounds source state) to from (events_of source + 1) ends.onward.links.items ends.onward.sum
  pub back : IsWayOf (all_bounds source state) from to (events_of source + 1) ends.back.links.items ends.back.sum

-- both ends, each after its word
abbrev pub ends_text : {A : Type 0} → PlanSource → Content → List ℕ → List ℕ → BothWays A → List ℕ
ends_text source state low high ends =
    end_text source state low (neg_ℤ ends.onward.sum) ends.onward.links.items ++ end_text source state high ends.back.sum ends.back.links.items

-- the text is a line of the least and the greatest time from one event to another, as `AreEnds` defines them by all bounds, and then for
-- each of the two, after a word, the way of bounds that holds it: the negated sum of the way from `to` to `from` is the least time, and the
-- sum of the way from `from` to `to` the greatest
pub record IsReasonPart (source : PlanSource) (state : Content) (from to : ℕ) (AreEnds : List Difference → ℤ → ℤ → Type 0)
    (heading : ℤ → ℤ → List ℕ) (least_word greatest_word text : List ℕ) : Type 0 where
  pub possible : HasSchedule (all_bounds source state)
  pub least : ℤ
  pub greatest : ℤ
  pub ends : AreEnds (all_bounds source state) least greatest
  pub back : List Link
  pub onward : List Link
  pub way_back : IsWay (all_bounds source state) to from back
  pub way_onward : IsWay (all_bounds source state) from to onward
  pub holds_least : least ≡ neg_ℤ (weight_of (all_bounds source state) back)
  pub holds_greatest : greatest ≡ weight_of (all_bounds source state) onward
  pub whole : text ≡ heading least greatest
      ++ (end_text source state least_word least back ++ end_text source state greatest_word greatest onward)

-- of an event: the line of its window, whose ends are its least and its greatest time after the origin
abbrev pub IsWhyPart : PlanSource → Content → ℕ → List ℕ → Type 0
IsWhyPart source state event =
    IsReasonPart source state 0 event (λ bounds. IsWindow bounds event) (λ earliest latest. window_line event earliest latest (is_done state event))
    (codes "earliest") (codes "latest")

-- the text that `why` prints of an event of the plan: why its window ends where it does, or the conflict
abbrev pub IsWhyText : PlanSource → Content → ℕ → List ℕ → Type 0
IsWhyText source state event text = IsWhyPart source state event text ⊎ IsConflictPart source state text

-- of two events: the line of their range
abbrev pub IsApartPart : PlanSource → Content → ℕ → ℕ → List ℕ → Type 0
IsApartPart source state from to =
    IsReasonPart source state from to (λ bounds. IsRange bounds from to) (range_line from to) (codes "least") (codes "greatest")

-- the text that `why` prints of two events of the plan: why they come no closer and no further apart, or the conflict
abbrev pub IsApartText : PlanSource → Content → ℕ → ℕ → List ℕ → Type 0
IsApartText source state from to text = IsApartPart source state from to text ⊎ IsConflictPart source state text

-- one of the two events is not one of the plan's
abbrev pub NamesNoEvent : PlanSource → ℕ → ℕ → Type 0
NamesNoEvent source from to = (events_of source < from) ⊎ (events_of source < to)
