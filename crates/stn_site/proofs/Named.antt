-- Records that name the events of a plan, and what they are after a change.
use Rattle.std.{proofs.{Common.{rules, ◌≡◌, ℕ, Bool, true, false, cond, List, [], ◌∷◌, Some, ⊎_elim, inr, sym, subst, All}, lemmas.List.Elements.{All-from_recursion, recursion_from_All, All-map, All-filter}}, specs.{List.AllByRecursion, Ordering.eq_by_cmp, FinMap.{get, insert, get-insert}}}
use Rattle.stn_net.specs.Difference.{Difference, NamesEvents}
use Rattle.stn_records.{specs.{Id.{SiteCounter, id_cmp}, declared.record.Record.Record, Maps.AllFit, ContentLaws.{ids_total, ids_exact, contents_join}, Content.{Content, RecordMap, addition, is_known, no_content, join_contents, content_taken}}, proofs.{Gets.{entries_from_get, get_from_entries}, Holding.joined_is, Proper.{empty_fits, insert_fits}}}
use Rattle.stn_site.specs.Bounds.{bounds_of, live_bounds, RecordsName}

-- what holds of the bound of each record holds of each of the bounds
module _ (P : Difference → Type 0) where
  bounds_each : (records : List (SiteCounter × Record)) → AllByRecursion P (bounds_of records) → AllByRecursion (λ entry. P entry.1.bound) records
  bounds_each [] h = tt
  bounds_each (entry ∷ records) h = (h.0, bounds_each records h.1)

  pub records_from_bounds : (records : List (SiteCounter × Record)) → All P (bounds_of records) → All (λ entry. P entry.1.bound) records
  records_from_bounds records h = search (rules, All-from_recursion, bounds_each, recursion_from_All)

  pub bounds_from_records : (records : List (SiteCounter × Record)) → All (λ entry. P entry.1.bound) records → All P (bounds_of records)
  bounds_from_records records h = search (rules, All-map)

-- records that name some events, named by the bounds of the live ones
pub live_named : (events : ℕ) (s : Content) → RecordsName events s → All (NamesEvents events) (live_bounds s)
live_named events s named = search (rules, bounds_from_records, All-filter)

pub same_id : (q id : SiteCounter) → eq_by_cmp id_cmp q id ≡ true → q ≡ id
same_id q id t = search rules

pub itself : (id : SiteCounter) → eq_by_cmp id_cmp id id ≡ true
itself id = search rules

-- what an insertion leaves
pub get_inserted : (m : RecordMap) (id : SiteCounter) (r : Record) (q : SiteCounter) (b : Bool) → eq_by_cmp id_cmp q id ≡ b → get (insert m id r) q ≡ cond b (Some r) (get m q)
get_inserted m id r q b t = cc (get-insert ids_total m id r q)

module _ (s new : Content) (id : SiteCounter) (r : Record) (unknown : is_known s id ≡ false) (added : new.additions ≡ insert s.additions id r) where
  pub get_added : (q : SiteCounter) (b : Bool) → eq_by_cmp id_cmp q id ≡ b → get new.additions q ≡ cond b (Some r) (get s.additions q)
  get_added q b t = cc (get_inserted s.additions id r q b t)

module _ (events : ℕ) where
  named_at : (s : Content) → RecordsName events s → AllFit (λ r. NamesEvents events r.bound) s.additions
  named_at s named = get_from_entries ids_total ids_exact s.additions (λ entry. NamesEvents events entry.1.bound) named

  named_by : (s : Content) → AllFit (λ r. NamesEvents events r.bound) s.additions → RecordsName events s
  named_by s each = entries_from_get ids_total ids_exact s.additions (λ entry. NamesEvents events entry.1.bound) each

  -- nothing at first
  pub none_named : (none : Content) → none ≡ no_content → RecordsName events none
  none_named none is = named_by none (subst (λ (s : Content). AllFit (λ r. NamesEvents events r.bound) s.additions) (sym is) (empty_fits (λ r. NamesEvents events r.bound)))

  pub named_added : (s new : Content) (id : SiteCounter) (r : Record) → new.additions ≡ insert s.additions id r → RecordsName events s → NamesEvents events r.bound → RecordsName events new
  named_added s new id r added named this =
      named_by new (subst (AllFit (λ r. NamesEvents events r.bound)) (sym added) (insert_fits (λ r. NamesEvents events r.bound) s.additions id r (named_at s named) this))

  -- records of another state that are all held name what the records of this one do
  pub named_held : (a b : Content) → content_taken a b ≡ Some a → RecordsName events a → RecordsName events b
  named_held a b is named = named_by b (λ id r there. named_at a named id r ((contents_join.union a b a (joined_is a b is) (addition id r)).1 (inr there)))

  pub named_joined : (a b c : Content) → join_contents a b ≡ Some c → RecordsName events a → RecordsName events b → RecordsName events c
  named_joined a b c e ours theirs = named_by c (λ id r there. ⊎_elim (named_at a ours id r) (named_at b theirs id r) ((contents_join.union a b c e (addition id r)).0 there))
