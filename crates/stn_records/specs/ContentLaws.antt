-- For proofs alone: no public clause cites these words. They stand here since the laws of the trait `Join` name them.
-- The joins of maps of records, of sets of ids and of contents are the unions of their items.
use Rattle.std.{specs.{Prelude.{◌≡◌, Bool, cond, not, ◌↔◌, ◌⊎◌, Option, Some, None, is_some, refl}, Bool.Decides, Cmp.IsTotalOrder, FinMap.{FinMap, IsAntisymmetric}}, proofs.Common.{rules, ap}}
use Rattle.stn_net.specs.Difference.{Difference}
use Rattle.stn_records.specs.{Id.{SiteCounter, id_cmp, same_ids, lesser_of}, Record.{same_marks, same_bounds, same_records}, declared.record.{Mark.Mark, Record.Record}, Join.IsJoin, JoinLaws.repeats, Maps.same_units, MapLaws.{map_join, join_undisputed, undisputed, disputes, chosen}, Content.{RecordMap, IdSet, ReplacementMap, Content, Item, addition, withdrawal, replacement, HasItem, dispute_contents, join_contents, joined_contents}}
use Rattle.stn_records.specs.Maps as maps

-- ids that compare alike are one
pub ids_exact : IsAntisymmetric id_cmp
ids_exact a b h = search rules

pub ids_total : IsTotalOrder id_cmp
ids_total = search rules

marks_decide : (m n : Mark) → Decides (same_marks m n) (m ≡ n)
marks_decide m n = search rules

bounds_decide : (a b : Difference) → Decides (same_bounds a b) (a ≡ b)
bounds_decide a b = search rules

-- the test of two records tells whether they are equal
pub records_decide : (r s : Record) → Decides (same_records r s) (r ≡ s)
records_decide r s = search (rules, bounds_decide)

-- a set has no two values
pub units_decide : (a b : Unit {0}) → Decides (same_units a b) (a ≡ b)
units_decide a b = (λ _. refl, λ _. refl)

-- the test of two ids tells whether they are equal
pub ids_decide : (a b : SiteCounter) → Decides (same_ids a b) (a ≡ b)
ids_decide a b = search rules

-- the join of two maps from ids is the union of their entries, whatever the values are
module _ {X : Type 0} (same : X → X → Bool) (decides : (x y : X) → Decides (same x y) (x ≡ y)) where
  pub maps_join : IsJoin {C = FinMap id_cmp X} {I = SiteCounter × X} (maps.HasEntry {R = id_cmp}) (maps.join same)
  maps_join = map_join ids_total ids_exact same decides

  pub maps_dispute : (a b : FinMap id_cmp X) → is_some (maps.join same a b) ≡ not (is_some (maps.dispute same a b))
  maps_dispute = disputes ids_total ids_exact same decides

  pub maps_undisputed : (a b : FinMap id_cmp X) → maps.dispute same a b ≡ None → maps.join same a b ≡ Some (maps.union a b)
  maps_undisputed = join_undisputed ids_total ids_exact same decides

-- two sets are never in dispute
pub sets_agree : (a b : IdSet) → maps.join same_units a b ≡ Some (maps.union a b)
sets_agree a b = maps_undisputed same_units units_decide a b (undisputed ids_total ids_exact same_units units_decide a b (λ q. search rules))

-- the joins of the three parts
pub records_join : IsJoin {C = RecordMap} {I = SiteCounter × Record} (maps.HasEntry {R = id_cmp}) (maps.join same_records)
records_join = maps_join same_records records_decide

pub ids_join : IsJoin {C = IdSet} {I = SiteCounter × Unit {0}} (maps.HasEntry {R = id_cmp}) (maps.join same_units)
ids_join = maps_join same_units units_decide

pub replacements_join : IsJoin {C = ReplacementMap} {I = SiteCounter × SiteCounter} (maps.HasEntry {R = id_cmp}) (maps.join same_ids)
replacements_join = maps_join same_ids ids_decide

-- where the lesser of two is none, neither is there
pub lesser_none : (f g : Option SiteCounter) → lesser_of f g ≡ None → (f ≡ None) × (g ≡ None)
lesser_none f g e = search rules

-- where no id is in dispute, the join is the union of the three parts
pub contents_undisputed : (a b : Content) → dispute_contents a b ≡ None → join_contents a b ≡ Some (joined_contents a b)
contents_undisputed a b none = ap (λ v. cond (is_some v) None (Some (joined_contents a b))) none

-- each part is the join of the parts
record IsJoined (a b c : Content) : Type 0 where
  additions : maps.join same_records a.additions b.additions ≡ Some c.additions
  tombstones : maps.join same_units a.tombstones b.tombstones ≡ Some c.tombstones
  replacements : maps.join same_ids a.replacements b.replacements ≡ Some c.replacements

parts : (a b c : Content) → join_contents a b ≡ Some c → IsJoined a b c
parts a b c e = search (rules, lesser_none, sets_agree, ids_decide)

-- parts that have joins are not in dispute
undisputed_part : {X : Type 0} (same : X → X → Bool) (a b c : FinMap id_cmp X) → maps.join same a b ≡ Some c → maps.dispute same a b ≡ None
undisputed_part same a b c e = (chosen (maps.dispute same a b) (maps.union a b) c e).0

-- the join of two contents is the union of their items
pub contents_join : IsJoin HasItem join_contents
contents_join = record {
  same = λ c d h. λ i. record {
    additions = records_join.same c.additions d.additions (λ e. h (addition e.0 e.1)) i;
    tombstones = ids_join.same c.tombstones d.tombstones (λ e. h (withdrawal e.0)) i;
    replacements = replacements_join.same c.replacements d.replacements (λ e. h (replacement e.0 e.1)) i;
  };
  union = λ a b c e item. item_union a b c (parts a b c e) item;
  defined = λ a b c f g.
      let additions = records_join.defined a.additions b.additions c.additions (λ e. f (addition e.0 e.1)) (λ e. g (addition e.0 e.1)) in
      let replacements = replacements_join.defined a.replacements b.replacements c.replacements (λ e. f (replacement e.0 e.1)) (λ e. g (replacement e.0 e.1)) in
      let ours = undisputed_part same_records a.additions b.additions additions.0 additions.1 in
      let theirs = undisputed_part same_ids a.replacements b.replacements replacements.0 replacements.1 in
      let none : dispute_contents a b ≡ None = λ i. lesser_of (ours i) (theirs i) in
      (joined_contents a b, contents_undisputed a b none);
}
  where
    item_union : (a b c : Content) → IsJoined a b c → (item : Item) → HasItem c item ↔ (HasItem a item ⊎ HasItem b item)
    item_union a b c all (addition id r) = records_join.union a.additions b.additions c.additions all.additions (id, r)
    item_union a b c all (withdrawal id) = ids_join.union a.tombstones b.tombstones c.tombstones all.tombstones (id, tt)
    item_union a b c all (replacement id old) = replacements_join.union a.replacements b.replacements c.replacements all.replacements (id, old)

pub contents_repeat : (a : Content) → join_contents a a ≡ Some a
contents_repeat = repeats contents_join

pub contents_dispute : (a b : Content) → is_some (join_contents a b) ≡ not (is_some (dispute_contents a b))
contents_dispute a b = search rules
