-- The live records of a state, and those that become live from one state to the next.
use Rattle.std.{proofs.{Common.{rules, ◌≡◌, Bool, true, false, cond, not, ◌&&◌, List, [], ◌∷◌, ◌++◌, filter, Option, Some, is_some, refl, sym, ◌∙◌, All}, lemmas.{Bool.false≢true, List.Elements.{All-from_recursion, recursion_from_All, All-filter, filter_passes}}}, specs.{List.AllByRecursion, FinMap.{entries, get}}}
use Rattle.stn_net.{specs.{Difference.Difference, Schedule.{HasSchedule, Meets}}, proofs.{Closure.schedule_before, Schedules.{met_behind, schedule_with}}}
use Rattle.stn_records.{specs.{Id.SiteCounter, declared.record.Record.Record, ContentLaws.{ids_total, ids_exact}, Content.{Content, is_live, is_replaced, live_of}}, proofs.Gets.{entries_from_get, get_from_entries}}
use Rattle.stn_site.{proofs.Named.{records_from_bounds, bounds_from_records}, specs.{Bounds.{bounds_of, live_bounds}, Growth.{is_risen, risen, KeepsLive, Extends}}}

abbrev pub Entry : Type 0
Entry = SiteCounter × Record

module _ {X : Type 0} (p : X → Bool) (P : X → Type 0) where
  tested : (xs : List X) → AllByRecursion P (filter p xs) → AllByRecursion (λ x. p x ≡ true → P x) xs
  tested [] h = tt
  tested (x ∷ xs) h =
      elim (p x) as (λ b. p x ≡ b → AllByRecursion P (cond b (x ∷ filter p xs) (filter p xs)) → AllByRecursion (λ x. p x ≡ true → P x) (x ∷ xs)) [
        | true ↦ λ t g. ((λ _. g.0), tested xs g.1)
        | false ↦ λ t g. ((λ u. absurd (false≢true (sym t ∙ u))), tested xs g)
      ] refl h

  -- what holds of each element that passes holds of each element of a filter
  pub All-filter_passing : (xs : List X) → All (λ x. p x ≡ true → P x) xs → All P (filter p xs)
  All-filter_passing xs h k d within = All-filter p (λ x. p x ≡ true → P x) xs h k d within (filter_passes p xs k d within)

  pub All-passing : (xs : List X) → All P (filter p xs) → All (λ x. p x ≡ true → P x) xs
  All-passing xs h = All-from_recursion (λ x. p x ≡ true → P x) xs (tested xs (recursion_from_All P (filter p xs) h))

-- what holds of each live record holds of each bound of the live ones
abbrev pub LiveHold : (Difference → Type 0) → Content → Type 0
LiveHold P s = (id : SiteCounter) (r : Record) → get s.additions id ≡ Some r → is_live s id ≡ true → P r.bound

-- and of each that has become live
abbrev pub RisenHold : (Difference → Type 0) → Content → Content → Type 0
RisenHold P old new = (id : SiteCounter) (r : Record) → get new.additions id ≡ Some r → is_risen old new id ≡ true → P r.bound

known_here : (o : Option Record) (r : Record) (b : Bool) → o ≡ Some r → (is_some o && b) ≡ b
known_here o r b e = cc

module _ (P : Difference → Type 0) where
  -- what holds of the bounds of all live records
  pub live_from_bounds : (s : Content) → All P (live_bounds s) → LiveHold P s
  live_from_bounds s h id r there live =
      get_from_entries ids_total ids_exact s.additions (λ entry. not (is_replaced s entry.0) ≡ true → P entry.1.bound)
      (All-passing (λ entry. not (is_replaced s entry.0)) (λ entry. P entry.1.bound) (entries s.additions) (records_from_bounds P (live_of s) h))
      id r there (sym (known_here (get s.additions id) r _ there) ∙ live)

  pub bounds_from_live : (s : Content) → LiveHold P s → All P (live_bounds s)
  bounds_from_live s f =
      bounds_from_records P (live_of s)
      (All-filter_passing (λ entry. not (is_replaced s entry.0)) (λ entry. P entry.1.bound) (entries s.additions)
      (entries_from_get ids_total ids_exact s.additions (λ entry. not (is_replaced s entry.0) ≡ true → P entry.1.bound)
      (λ id r there untombed. f id r there (known_here (get s.additions id) r _ there ∙ untombed))))

  pub risen_from_bounds : (old new : Content) → All P (bounds_of (risen old new)) → RisenHold P old new
  risen_from_bounds old new h =
      get_from_entries ids_total ids_exact new.additions (λ entry. is_risen old new entry.0 ≡ true → P entry.1.bound)
      (All-passing (λ entry. is_risen old new entry.0) (λ entry. P entry.1.bound) (entries new.additions) (records_from_bounds P (risen old new) h))

  pub bounds_from_risen : (old new : Content) → RisenHold P old new → All P (bounds_of (risen old new))
  bounds_from_risen old new f =
      bounds_from_records P (risen old new)
      (All-filter_passing (λ entry. is_risen old new entry.0) (λ entry. P entry.1.bound) (entries new.additions)
      (entries_from_get ids_total ids_exact new.additions (λ entry. is_risen old new entry.0 ≡ true → P entry.1.bound) f))

pub there_where_live : (o : Option Record) (b : Bool) → (is_some o && b) ≡ true → (r : Record) × (o ≡ Some r)
there_where_live o b e = search rules

module _ (P : Difference → Type 0) (old new : Content) (extends : Extends old new) (keeps : KeepsLive old new) where
  -- where no record stops being live, the live ones are those of before and those that have become live
  pub old_hold : LiveHold P new → LiveHold P old
  old_hold f id r there live = search rules

  pub risen_hold : LiveHold P new → RisenHold P old new
  risen_hold f id r there is = search rules

  pub new_hold : LiveHold P old → RisenHold P old new → LiveHold P new
  new_hold f g id r there live = search rules

-- bounds without a schedule have none with more
pub conflict_stays : (base : List Difference) (old new : Content) → Extends old new → KeepsLive old new
    → ¬ HasSchedule (base ++ live_bounds old) → ¬ HasSchedule (base ++ live_bounds new)
conflict_stays base old new extends keeps none s =
    let all = live_from_bounds (Meets s.0) new (met_behind base (live_bounds new) s.0 s.1) in
    none (s.0, schedule_with base (live_bounds old) s.0 (schedule_before base (live_bounds new) s.0 s.1) (bounds_from_live (Meets s.0) old (old_hold (Meets s.0) old new extends keeps all)))

-- where no id that is replaced now was live, each record that was live still is
pub keeps_unless_replaced : (old new : Content) → Extends old new → ((id : SiteCounter) → is_replaced new id ≡ true → is_live old id ≡ false) → KeepsLive old new
keeps_unless_replaced old new extends dead id live = search rules
