-- What parts and images of lists have, and schedules of fewer bounds.
use Rattle.std.{proofs.{Common.{rules, ◌≡◌, Bool, true, List, [], ◌∷◌, ◌++◌, map, filter, refl, All, ⊎_elim}, lemmas.List.Elements.{Contains-append_cases, Contains-append_left, Contains-append_right, All-contains, All-contains_itself, All-filter, All-map, filter_passes}}, specs.List.Contains}
use Rattle.stn_net.specs.{Difference.Difference, Schedule.{Meets, HasSchedule}}

module _ {X : Type 0} where
  pub from_filter : (test : X → Bool) (xs : List X) (x : X) → Contains (filter test xs) x → Contains xs x × (test x ≡ true)
  from_filter test xs x has = (
    All-contains (Contains xs) (filter test xs) x (All-filter test (Contains xs) xs (All-contains_itself xs)) has,
    All-contains (λ y. test y ≡ true) (filter test xs) x (filter_passes test xs) has,
  )

  -- what holds of each element
  all_of : (P : X → Type 0) (xs : List X) → ((x : X) → Contains xs x → P x) → All P xs
  all_of P xs f = search rules

module _ {X Y : Type 0} (f : X → Y) where
  abbrev IsImage : List X → Y → Type 0
  IsImage xs y = (x : X) × Contains xs x × (f x ≡ y)

  pub from_map : (xs : List X) (y : Y) → Contains (map f xs) y → IsImage xs y
  from_map xs y has = All-contains (IsImage xs) (map f xs) y (All-map (IsImage xs) f xs (all_of (λ x. IsImage xs (f x)) xs (λ x found. (x, found, refl)))) has

-- all of the few are among the many
abbrev pub AreAmong : List Difference → List Difference → Type 0
AreAmong few many = (bound : Difference) → Contains few bound → Contains many bound

pub both_among : (one other many : List Difference) → AreAmong one many → AreAmong other many → AreAmong (one ++ other) many
both_among one other many first second bound there = ⊎_elim (first bound) (second bound) (Contains-append_cases one other bound there)

-- so with one more
pub more_among : (few many : List Difference) (bound : Difference) → AreAmong few many → AreAmong (few ++ bound ∷ []) (many ++ bound ∷ [])
more_among few many bound are = search (rules, both_among, Contains-append_left, Contains-append_right)

-- fewer bounds have a schedule where more have
pub fewer_have : (few many : List Difference) → AreAmong few many → HasSchedule many → HasSchedule few
fewer_have few many among (time, is) =
    (time, record { origin = is.origin; met = all_of _ few (λ bound has. All-contains (Meets time) many bound is.met (among bound has)) })
