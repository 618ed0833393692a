-- For proofs alone: no public clause cites these words.
use Rattle.std.specs.Prelude.{◌≡◌, ℕ, List, [], ◌∷◌, map, All}
use Rattle.stn_net.specs.{Difference.{Difference, NamesEvents}, Schedule.HasSchedule}
use Rattle.stn_lift.specs.PlanSource.{events_of}
use Rattle.stn_records.specs.{Id.SiteCounter, Content.{Content, next_counter, with_record, plain}}
use Rattle.stn_site.specs.{Bounds.all_bounds, Held.Held, declared.own.OwnedSteps.OwnedSteps}
use Rattle.stn_guard.specs.{Guard.Guards, Adding.{owner_by, IsGuardAt}}

-- the bounds are the guard of all bounds of a site, and guard them
pub record MakesGuard (owned : List OwnedSteps) (held : Held) (guard : List Difference) : Type 0 where
  pub possible : HasSchedule (all_bounds held.source held.state)
  pub is_guard : IsGuardAt owned held guard
  pub guards : Guards (owner_by held.site owned) (all_bounds held.source held.state) guard
  pub named : All (NamesEvents (events_of held.source)) guard

-- plain records of the bounds are put to a content under the site's next ids, one after the other
abbrev pub AllPut : ℕ → Content → List (SiteCounter × Difference) → Content → Type 0
AllPut site old [] new = new ≡ old
AllPut site old (one ∷ records) new =
    (one.0 ≡ record { site = site; counter = next_counter old site }) × AllPut site (with_record old one.0 (plain one.1)) records new

-- the same, from the bounds and the ids
pub record PutsEach (site : ℕ) (old : Content) (bounds : List Difference) (ids : List SiteCounter) (new : Content) : Type 0 where
  pub records : List (SiteCounter × Difference)
  pub bounds_are : bounds ≡ map (λ one. one.1) records
  pub ids_are : ids ≡ map (λ one. one.0) records
  pub put : AllPut site old records new
