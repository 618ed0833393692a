-- What an addition, an amendment, a withdrawal and a take make of a state.
use Rattle.std.{proofs.{lemmas.{Grind.common_steps, Bool.{false≢true, false_from_ne_true, cases_lt, or_cases, not-true, and_parts, or_right}, Option.same_Some}, Common.{rules, ◌≡◌, ◌<◌, ◌≤◌, true, false, not, ◌&&◌, ◌||◌, List, length, Some, is_some, inl, ⊎_elim, refl, sym, ap, ◌∙◌, arith, All}, Math.Bool.and-not_self}, specs.{Ordering.eq_by_cmp, FinMap.{get, insert, contains_key}}}
use Rattle.stn_net.specs.Difference.{Difference}
use Rattle.stn_records.{specs.{Id.{SiteCounter, id_cmp}, declared.record.Record.Record, ContentLaws.contents_join, Content.{Content, addition, is_live, is_replaced, is_known, plain, replaced_set, with_amendment, with_record, with_tombstone, join_contents}}, proofs.Replaced.{replaced_by_withdrawal, inserted_key, replaced_withdrawn, replaced_amended}}
use Rattle.stn_site.{specs.{Bounds.bounds_of, Growth.{is_risen, risen, KeepsLive, Extends}}, proofs.{Counts.{unknown_absent, unknown_unreplaced}, Named.{same_id, itself, get_added}, Live.{RisenHold, keeps_unless_replaced, risen_from_bounds}}}

-- ---- an id that is replaced is not live
pub replaced_dead : (s : Content) (id : SiteCounter) → is_replaced s id ≡ true → is_live s id ≡ false
replaced_dead s id e = search rules

-- a withdrawn id is replaced
pub withdrawn_replaced : (s : Content) (id : SiteCounter) → contains_key s.tombstones id ≡ true → is_replaced s id ≡ true
withdrawn_replaced s id e = search (rules, replaced_by_withdrawal)

-- ---- a state with one more record, which has become live; what was live is live still
pub record IsGrown (old new : Content) (id : SiteCounter) (r : Record) : Type 0 where
  pub extends : Extends old new
  pub keeps : KeepsLive old new
  pub there : get new.additions id ≡ Some r
  pub rose : is_risen old new id ≡ true
  pub alone : (q : SiteCounter) (v : Record) → get new.additions q ≡ Some v → is_risen old new q ≡ true → v ≡ r

module _ (s new : Content) (id : SiteCounter) (r : Record) (unknown : is_known s id ≡ false) (added : new.additions ≡ insert s.additions id r) where
  pub extends_added : Extends s new
  extends_added q v there =
      elim (eq_by_cmp id_cmp q id) as (λ b. eq_by_cmp id_cmp q id ≡ b → get new.additions q ≡ Some v) [
        | true ↦ λ t. absurd (false≢true (ap is_some (sym (unknown_absent s id unknown) ∙ ap (λ k. get s.additions k) (sym (same_id q id t)) ∙ there)))
        | false ↦ λ t. get_added s new id r unknown added q false t ∙ there
      ] refl

  -- where no id that was not replaced is replaced now, but for one that was not live, and not the new one
  module _ (more : (q : SiteCounter) → is_replaced s q ≡ true → is_replaced new q ≡ true) (dead : (q : SiteCounter) → is_replaced new q ≡ true → is_live s q ≡ false) (free : is_replaced new id ≡ false) where
    there_added : get new.additions id ≡ Some r
    there_added = get_added s new id r unknown added id true (itself id)

    rose_added : is_risen s new id ≡ true
    rose_added =
        ap (λ o. (is_some o && not (is_replaced new id)) && not (is_live s id)) there_added
        ∙ ap (λ b. not b && not (is_live s id)) free
        ∙ ap (λ o. not (is_some o && not (is_replaced s id))) (unknown_absent s id unknown)

    stayed : (q : SiteCounter) → is_replaced new q ≡ false → is_replaced s q ≡ false
    stayed q e = elim (is_replaced s q) as (λ b. is_replaced s q ≡ b → b ≡ false) [ true ↦ λ t. absurd (false≢true (sym e ∙ more q t)) | false ↦ λ t. refl ] refl

    alone_added : (q : SiteCounter) (v : Record) → get new.additions q ≡ Some v → is_risen s new q ≡ true → v ≡ r
    alone_added q v there rose =
        elim (eq_by_cmp id_cmp q id) as (λ b. eq_by_cmp id_cmp q id ≡ b → v ≡ r) [
          | true ↦ λ t. sym (same_Some r v (sym (get_added s new id r unknown added q true t) ∙ there))
          | false ↦ λ t.
              let now : is_live new q ≡ true = (and_parts (is_live new q) (not (is_live s q)) rose).0 in
              let unreplaced = not-true (is_replaced new q) (and_parts (is_some (get new.additions q)) (not (is_replaced new q)) now).1 in
              let same : is_live new q ≡ is_live s q = λ i. is_some (get_added s new id r unknown added q false t i) && not ((unreplaced ∙ sym (stayed q unreplaced)) i) in
              absurd (false≢true (sym (and-not_self (is_live s q)) ∙ ap (λ b. b && not (is_live s q)) (sym same) ∙ rose))
        ] refl

    pub grown : IsGrown s new id r
    grown = record { extends = extends_added; keeps = keeps_unless_replaced s new extends_added dead; there = there_added; rose = rose_added; alone = alone_added }

-- with one more record
pub grown_with_record : (s : Content) (id : SiteCounter) (r : Record) → is_known s id ≡ false → IsGrown s (with_record s id r) id r
grown_with_record s id r unknown =
    grown s (with_record s id r) id r unknown refl (λ q e. e) (λ q e. replaced_dead s q e) (unknown_unreplaced s id unknown)

-- ---- an amendment under an id that replaces no other id
module _ (s new : Content) (id old : SiteCounter) (bound : Difference) (is : new ≡ with_amendment s id old bound) (agrees : (z : SiteCounter) → get s.replacements id ≡ Some z → z ≡ old) where
  -- the old id is replaced, and those that were
  replaced_or_old : (q : SiteCounter) → is_replaced new q ≡ (eq_by_cmp id_cmp q old || is_replaced s q)
  replaced_or_old q = cc (replaced_amended s id old bound agrees, inserted_key (replaced_set s) old q)

  -- where the old record was not live, the new one has become so, and no other changes
  pub grown_with_amendment : is_known s id ≡ false → is_known s old ≡ true → is_live s old ≡ false → IsGrown s new id (plain bound)
  grown_with_amendment unknown known dead =
      grown s new id (plain bound) unknown (ap (λ (t : Content). t.additions) is) (λ q e. replaced_or_old q ∙ or_right (eq_by_cmp id_cmp q old) (is_replaced s q) e)
      (λ q e. ⊎_elim (λ here. ap (λ k. is_live s k) (same_id q old here) ∙ dead) (λ gone. replaced_dead s q gone) (or_cases (eq_by_cmp id_cmp q old) (is_replaced s q) (sym (replaced_or_old q) ∙ e)))
      (replaced_or_old id ∙ (λ i. other i || unknown_unreplaced s id unknown i))
    where
      other : eq_by_cmp id_cmp id old ≡ false
      other = false_from_ne_true (eq_by_cmp id_cmp id old) (λ e. false≢true (sym unknown ∙ ap (λ k. is_known s k) (same_id id old e) ∙ known))

  -- where it was live, a live record has stopped being so
  pub falls_with_amendment : is_live s old ≡ true → ¬ KeepsLive s new
  falls_with_amendment live = search (rules, replaced_or_old)

module _ (s new : Content) (id : SiteCounter) (r : Record) (g : IsGrown s new id r) where
  -- what holds of the bounds of those that have become live holds of the one that was added
  pub added_hold : (P : Difference → Type 0) → RisenHold P s new → P r.bound
  added_hold P f = f id r g.there g.rose

  pub hold_added : (P : Difference → Type 0) → P r.bound → RisenHold P s new
  hold_added P h q v there rose = search rules

  -- and at least one has become live
  none_at_all : (records : List (SiteCounter × Record)) → length records < 1 → All {X = Difference} (λ _. ⊥) (bounds_of records)
  none_at_all records short = grind (arith, common_steps)

  pub one_risen : 1 ≤ length (risen s new)
  one_risen = ⊎_elim (λ short. absurd (added_hold (λ _. ⊥) (risen_from_bounds (λ _. ⊥) s new (none_at_all (risen s new) short)))) (λ at. at) (cases_lt (length (risen s new)) 1)

-- ---- a state that takes another
pub extends_joined : (a b c : Content) → join_contents a b ≡ Some c → Extends a c
extends_joined a b c e id r there = (contents_join.union a b c e (addition id r)).1 (inl there)

-- ---- a withdrawal
module _ (s : Content) (id : SiteCounter) where
  -- the id is replaced, and those that were
  replaced_or_here : (q : SiteCounter) → is_replaced (with_tombstone s id) q ≡ (eq_by_cmp id_cmp q id || is_replaced s q)
  replaced_or_here q = cc (replaced_withdrawn s id, inserted_key (replaced_set s) id q)

  -- it is not live any more
  pub withdrawn_dead : is_live (with_tombstone s id) id ≡ false
  withdrawn_dead = search (rules, replaced_or_here)

  -- where it was not live, the same records are
  pub same_live : is_live s id ≡ false → (q : SiteCounter) → is_live (with_tombstone s id) q ≡ is_live s q
  same_live dead q = search (rules, replaced_or_here)
