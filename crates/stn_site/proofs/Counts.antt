-- What counts of a state: its additions, and the ids that are replaced.
use Rattle.std.{proofs.{Common.{rules, ◌≡◌, ◌↔◌, true, false, Option, Some, None, is_some, inl, inr, ⊎_elim, sym, ap, ◌∙◌}, lemmas.Bool.or_parts}, specs.FinMap.get}
use Rattle.stn_records.{specs.{Id.SiteCounter, ContentLaws.{records_join, ids_join}, Content.{Content, AllAmend, Item, addition, withdrawal, replacement, HasItem, CountsSame, is_known, is_replaced, replaced_set}}, proofs.Replaced.{replaced_cases, replaced_by_withdrawal, replaced_by_entry}}
use Rattle.stn_site.specs.Calls.{Replaces, CountAlike}

-- an id that is not known was not added
pub unknown_absent : (s : Content) (id : SiteCounter) → is_known s id ≡ false → get s.additions id ≡ None
unknown_absent s id e = search rules

-- and is not replaced
pub unknown_unreplaced : (s : Content) (id : SiteCounter) → is_known s id ≡ false → is_replaced s id ≡ false
unknown_unreplaced s id e = (or_parts _ _ e).1

-- and replaces nothing
pub replaces_nothing : (s : Content) (id : SiteCounter) → AllAmend s → is_known s id ≡ false → get s.replacements id ≡ None
replaces_nothing s id amends unknown = search rules

-- an id is replaced where an item replaces it
pub replaced_by_items : (s : Content) (old : SiteCounter) → (is_replaced s old ≡ true) ↔ Replaces (HasItem s) old
replaced_by_items s old = search (rules, replaced_cases, replaced_by_withdrawal, replaced_by_entry)

is_there : (o : Option (Unit {0})) (u : Unit {0}) → is_some o ≡ true → o ≡ Some u
is_there o u e = search rules

-- items that count alike are those of states with the same additions and the same replaced ids
pub counts_alike : (s t : Content) → CountAlike (HasItem s) (HasItem t) ↔ CountsSame s t
counts_alike s t = (
  λ alike. record {
    additions = records_join.same s.additions t.additions (λ e. alike.additions e.0 e.1);
    replaced = ids_join.same (replaced_set s) (replaced_set t) (λ e. (
      λ h. is_there (get (replaced_set t) e.0) e.1 ((replaced_by_items t e.0).1 ((alike.replaced e.0).0 ((replaced_by_items s e.0).0 (ap is_some h)))),
      λ h. is_there (get (replaced_set s) e.0) e.1 ((replaced_by_items s e.0).1 ((alike.replaced e.0).1 ((replaced_by_items t e.0).0 (ap is_some h)))),
    ));
  },
  λ same. record {
    additions = λ id one. (λ h. ap (λ m. get m id) (sym same.additions) ∙ h, λ h. ap (λ m. get m id) same.additions ∙ h);
    replaced = λ old. (
      λ h. (replaced_by_items t old).0 (ap (λ m. is_some (get m old)) (sym same.replaced) ∙ (replaced_by_items s old).1 h),
      λ h. (replaced_by_items s old).0 (ap (λ m. is_some (get m old)) same.replaced ∙ (replaced_by_items t old).1 h),
    );
  },
)

-- states count alike where the items that they are the unions of do
pub alike_unions : (a b : Content) (P Q : Item → Type 0) → ((item : Item) → HasItem a item ↔ P item) → ((item : Item) → HasItem b item ↔ Q item) → CountAlike P Q → CountAlike (HasItem a) (HasItem b)
alike_unions a b P Q here there alike = record {
  additions = λ id r. through (here (addition id r)) (alike.additions id r) (there (addition id r));
  replaced = λ old. through (replaces_same (HasItem a) P here old) (alike.replaced old) (replaces_same (HasItem b) Q there old);
}
  where
    through : {A B C D : Type 0} → (A ↔ B) → (B ↔ C) → (D ↔ C) → A ↔ D
    through f g h = (λ x. h.1 (g.0 (f.0 x)), λ y. f.1 (g.1 (h.0 y)))

    replaces_same : (Has Have : Item → Type 0) → ((item : Item) → Has item ↔ Have item) → (old : SiteCounter) → Replaces Has old ↔ Replaces Have old
    replaces_same Has Have same old = (
      λ h. ⊎_elim (λ w. inl ((same (withdrawal old)).0 w)) (λ r. inr (r.0, (same (replacement r.0 old)).0 r.1)) h,
      λ h. ⊎_elim (λ w. inl ((same (withdrawal old)).1 w)) (λ r. inr (r.0, (same (replacement r.0 old)).1 r.1)) h,
    )
