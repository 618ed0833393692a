-- For proofs alone: no public clause cites these words. They stand here since the laws of the trait `Join` name them.
-- The join of two finite maps is the union of their entries.
use Rattle.std.{specs.{Prelude.{◌≡◌, Bool, true, false, cond, not, ◌↔◌, ◌⊎◌, List, [], ◌∷◌, map, Option, Some, None, is_some, find, refl}, declared.cmp.Ordering.Ordering, Bool.Decides, Cmp.{IsTotalOrder, Equal-is}, Option.option_or, Ordering.eq_by_cmp, FinMap.{FinMap, IsAntisymmetric, get, entries, get-insert, get-entries, same_map}}, proofs.{Common.{rules, sym, ap, subst, ◌∙◌}, lemmas.Bool.false≢true}}
use Rattle.std.specs.FinMap as fin
use Rattle.stn_records.specs.{Join.IsJoin, JoinLaws.same_options, Maps.{differ, with_entries, union, dispute, join, HasEntry}}

pub or_after : {X : Type 0} (b : Bool) (x : X) (o p : Option X) → cond b (Some x) (option_or o p) ≡ option_or (cond b (Some x) o) p
or_after b x o p = search rules

-- a value of either is one of the first, or of the second where the two agree
pub either_value : {X : Type 0} (o p : Option X) (x : X) → option_or o p ≡ Some x → (o ≡ Some x) ⊎ (p ≡ Some x)
either_value o p x e = search rules

-- where no key passes, none is found
pub none_found : {K : Type 0} (p : K → Bool) (ks : List K) → ((k : K) → p k ≡ false) → find p ks ≡ None
none_found p [] f = refl
none_found p (k ∷ ks) f = ap (λ b. cond b (Some k) (find p ks)) (f k) ∙ none_found p ks f

-- a choice that gives a value had no dispute
pub chosen : {K C : Type 0} (v : Option K) (u c : C) → cond (is_some v) None (Some u) ≡ Some c → (v ≡ None) × (u ≡ c)
chosen v u c e = search rules

module _ {X : Type 0} (same : X → X → Bool) (decides : (x y : X) → Decides (same x y) (x ≡ y)) where
  agreed_value : (o p : Option X) (x : X) → differ same o p ≡ false → (o ≡ Some x) ⊎ (p ≡ Some x) → option_or o p ≡ Some x
  agreed_value o p x e h = search rules

  alike_agree : (o p q : Option X) → ((x : X) → o ≡ Some x → q ≡ Some x) → ((x : X) → p ≡ Some x → q ≡ Some x) → differ same o p ≡ false
  alike_agree o p q f g = search rules

module _ {K X : Type 0} {R : K → K → Ordering} (o : IsTotalOrder R) (exact : IsAntisymmetric R) where
  get-with_entries : (m : FinMap R X) (es : List (K × X)) (q : K) → get (with_entries m es) q ≡ option_or (fin.find R q es) (get m q)
  get-with_entries m [] q = refl
  get-with_entries m (e ∷ es) q =
      cc (get-insert o (with_entries m es) e.0 e.1 q, get-with_entries m es q, or_after (eq_by_cmp R q e.0) e.1 (fin.find R q es) (get m q))

  -- what the union has at a key
  pub get-union : (a b : FinMap R X) (q : K) → get (union a b) q ≡ option_or (get a q) (get b q)
  get-union a b q = get-with_entries b (entries a) q ∙ ap (λ v. option_or v (get b q)) (sym (get-entries a q))

  -- a key at which no test of the keys passes
  unfound : (p : K → Bool) (es : List (K × X)) → find p (map (λ e. e.0) es) ≡ None → (q : K) (x : X) → fin.find R q es ≡ Some x → p q ≡ false
  unfound p [] none q x is = absurd (false≢true (ap is_some is))
  unfound p (e ∷ es) none q x is =
      elim (p e.0) as (λ b. p e.0 ≡ b → cond b (Some e.0) (find p (map (λ e. e.0) es)) ≡ None → p q ≡ false) [
        | true ↦ λ t f. absurd (false≢true (ap is_some (sym f)))
        | false ↦ λ t f. elim (eq_by_cmp R q e.0) as (λ b. eq_by_cmp R q e.0 ≡ b → cond b (Some e.1) (fin.find R q es) ≡ Some x → p q ≡ false) [
          | true ↦ λ s g. ap p (exact q e.0 ((Equal-is (R q e.0)).0 s)) ∙ t
          | false ↦ λ s g. unfound p es f q x g
        ] refl is
      ] refl none

  module _ (same : X → X → Bool) (decides : (x y : X) → Decides (same x y) (x ≡ y)) where
    -- the maps agree at each key
    abbrev pub Agree : FinMap R X → FinMap R X → Type 0
    Agree a b = (q : K) → differ same (get a q) (get b q) ≡ false

    agree_at : (a b : FinMap R X) → dispute same a b ≡ None → (q : K) (p : Option X) → get a q ≡ p → differ same (get a q) (get b q) ≡ false
    agree_at a b none q None e = ap (λ v. differ same v (get b q)) e
    agree_at a b none q (Some x) e = unfound (λ k. differ same (get a k) (get b k)) (entries a) none q x (sym (get-entries a q) ∙ e)

    -- no key is in dispute exactly where the maps agree
    pub agree : (a b : FinMap R X) → dispute same a b ≡ None → Agree a b
    agree a b none q = agree_at a b none q (get a q) refl

    pub undisputed : (a b : FinMap R X) → Agree a b → dispute same a b ≡ None
    undisputed a b f = none_found (λ k. differ same (get a k) (get b k)) (fin.keys a) f

    -- where no key is in dispute, the join is the union
    pub join_undisputed : (a b : FinMap R X) → dispute same a b ≡ None → join same a b ≡ Some (union a b)
    join_undisputed a b none = ap (λ v. cond (is_some v) None (Some (union a b))) none

    -- a join is there exactly where no key is in dispute
    pub disputes : (a b : FinMap R X) → is_some (join same a b) ≡ not (is_some (dispute same a b))
    disputes a b = elim (is_some (dispute same a b)) as (λ t. is_some (cond t None (Some (union a b))) ≡ not t) [ true ↦ refl | false ↦ refl ]

    union_entries : (a b : FinMap R X) → Agree a b → (e : K × X) → HasEntry (union a b) e ↔ (HasEntry a e ⊎ HasEntry b e)
    union_entries a b f e = (
      λ h. either_value (get a e.0) (get b e.0) e.1 (sym (get-union a b e.0) ∙ h),
      λ h. get-union a b e.0 ∙ agreed_value same decides (get a e.0) (get b e.0) e.1 (f e.0) h,
    )

    -- maps with the same entries are equal
    pub same_entries : (c d : FinMap R X) → ((e : K × X) → HasEntry c e ↔ HasEntry d e) → c ≡ d
    same_entries c d h = same_map o exact c d (λ q. same_options (get c q) (get d q) (λ x e. (h (q, x)).0 e) (λ x e. (h (q, x)).1 e))

    -- the join of two maps is the union of their entries
    pub map_join : IsJoin {C = FinMap R X} {I = K × X} (HasEntry {R = R}) (join {R = R} same)
    map_join = record {
      same = same_entries;
      union = λ a b c e i.
          let is = chosen (dispute same a b) (union a b) c e in
          subst (λ m. HasEntry m i ↔ (HasEntry a i ⊎ HasEntry b i)) is.1 (union_entries a b (agree a b is.0) i);
      defined = λ a b c f g.
          let none = undisputed a b (λ q. alike_agree same decides (get a q) (get b q) (get c q) (λ x e. f (q, x) e) (λ x e. g (q, x) e)) in
          (union a b, join_undisputed a b none);
    }
