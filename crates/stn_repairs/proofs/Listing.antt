-- The bounds of records name events.
use Rattle.std.proofs.{lemmas.List.Elements.{All-append, All-filter}, Common.{◌≡◌, ℕ, ◌<◌, not, List, length, get_or, sym, subst, All}}
use Rattle.stn_net.specs.Difference.{NamesEvents}
use Rattle.stn_records.specs.{Id.{SiteCounter, same_ids}, Record.same_marks, declared.record.{Mark.TheVariants.{Plain, Done}, Record.Record}}
use Rattle.stn_site.{specs.Bounds.bounds_of, proofs.Named.{records_from_bounds, bounds_from_records}}
use Rattle.stn_repairs.specs.{Repairs.without, Dropped.{marked, facts_first}}

-- records that name events
module _ (events : ℕ) (live : List (SiteCounter × Record)) (named : All (NamesEvents events) (bounds_of live)) where
  pub named_at : (n place : ℕ) (entry : SiteCounter × Record) → n ≡ events → place < length live → entry ≡ get_or live place entry → NamesEvents n entry.1.bound
  named_at n place entry e there is_at =
      subst (λ (k : ℕ). NamesEvents k entry.1.bound) (sym e)
      (subst (λ (one : SiteCounter × Record). NamesEvents events one.1.bound) (sym is_at) (records_from_bounds (NamesEvents events) live named place entry there))

  pub turns_named : All (NamesEvents events) (bounds_of (facts_first live))
  turns_named =
      bounds_from_records (NamesEvents events) (facts_first live)
      (All-append (λ (entry : SiteCounter × Record). NamesEvents events entry.1.bound) (marked Done live) (marked Plain live)
      (All-filter (λ entry. same_marks entry.1.mark Done) (λ entry. NamesEvents events entry.1.bound) live (records_from_bounds (NamesEvents events) live named))
      (All-filter (λ entry. same_marks entry.1.mark Plain) (λ entry. NamesEvents events entry.1.bound) live (records_from_bounds (NamesEvents events) live named)))

  pub others_named : (id : SiteCounter) → All (NamesEvents events) (bounds_of (without live id))
  others_named id = bounds_from_records (NamesEvents events) (without live id) (All-filter (λ entry. not (same_ids entry.0 id)) (λ entry. NamesEvents events entry.1.bound) live (records_from_bounds (NamesEvents events) live named))
