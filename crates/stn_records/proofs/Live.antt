-- The entries of ours whose ids theirs lacks, and the live records among them.
use Rattle.std.{proofs.{Common.{◌≡◌, Bool, true, false, ◌&&◌, cond, not, List, [], ◌∷◌, filter, Option, Some, None, is_some, Less, Equal, Greater, is_lt, is_eq, sym, refl, ap, ◌∙◌}, lemmas.Bool.{and_parts, and_from}}, specs.{Cmp.tied_back, FinMap.{entries, entries_sorted, find, get, get-entries, is_sorted, Entries.{is_sorted-where_key, find-where_key, below_all}}}}
use Rattle.stn_records.{specs.{Content.{Content, is_live, is_replaced, live_of, replaced_set}, Id.{SiteCounter, id_cmp}, declared.record.Record.Record, Sorted.without_ids, ContentLaws.{ids_total, ids_exact}}, proofs.Entries.{T_true, less_is, greater_back, below_less, below_tied, find_below, passed_over}}

module _ {X Y : Type 0} where
  -- an entry of theirs before all of ours is none of ours
  passed : (y : SiteCounter × Y) (ys : List (SiteCounter × Y)) (xs : List (SiteCounter × X)) → below_all id_cmp y.0 xs ≡ true → without_ids xs (y ∷ ys) ≡ without_ids xs ys
  passed y ys [] h = refl
  passed y ys (x ∷ xs) h =
      let below = and_parts _ _ h in
      λ i. cond (not (is_some (passed_over ids_total x.0 y ys (less_is _ below.0) i))) (x ∷ passed y ys xs below.1 i) (passed y ys xs below.1 i)

  module _ (x : SiteCounter × X) (xs : List (SiteCounter × X)) (y : SiteCounter × Y) (ys : List (SiteCounter × Y)) where
    pub ours_first : is_sorted id_cmp (y ∷ ys) ≡ true → id_cmp x.0 y.0 ≡ Less → without_ids (x ∷ xs) (y ∷ ys) ≡ x ∷ without_ids xs (y ∷ ys)
    ours_first h l =
        let rest = without_ids xs (y ∷ ys) in
        ap (λ o. cond (not (is_some o)) (x ∷ rest) rest)
        (find_below ids_total x.0 (y ∷ ys) (and_from _ _ (ap is_lt l) (below_less ids_total x.0 y.0 ys l (and_parts _ _ h).0)))

    pub both_first : is_sorted id_cmp (x ∷ xs) ≡ true → id_cmp x.0 y.0 ≡ Equal → without_ids (x ∷ xs) (y ∷ ys) ≡ without_ids xs ys
    both_first g t =
        let rest = without_ids xs (y ∷ ys) in
        ap (λ r. cond (not (is_some (cond (is_eq r) (Some y.1) (find id_cmp x.0 ys)))) (x ∷ rest) rest) t
        ∙ passed y ys xs (below_tied ids_total y.0 x.0 xs (tied_back ids_total x.0 y.0 t) (and_parts _ _ g).0)

    pub theirs_first : is_sorted id_cmp (x ∷ xs) ≡ true → id_cmp x.0 y.0 ≡ Greater → without_ids (x ∷ xs) (y ∷ ys) ≡ without_ids (x ∷ xs) ys
    theirs_first g t =
        let l = greater_back ids_total x.0 y.0 t in
        passed y ys (x ∷ xs) (and_from _ _ (ap is_lt l) (below_less ids_total y.0 x.0 xs l (and_parts _ _ g).0))

-- the live records are those that were added and are not replaced
pub live_are : (s : Content) (added : List (SiteCounter × Record)) (replaced : List (SiteCounter × Unit {0})) → added ≡ entries s.additions → replaced ≡ entries (replaced_set s) → without_ids added replaced ≡ live_of s
live_are s added replaced p q =
    (λ i. without_ids (p i) (q i))
    ∙ (λ i. filter (λ entry. not (is_some (sym (get-entries (replaced_set s) entry.0) i))) (entries s.additions))

-- they are in order
pub live_sorted : (s : Content) → is_sorted id_cmp (live_of s) ≡ true
live_sorted s = T_true _ (is_sorted-where_key id_cmp (λ id. not (is_replaced s id)) (entries s.additions) (entries_sorted s.additions))

-- and an id is found among them exactly where its record is live
pub found_where_live : (s : Content) (id : SiteCounter) → is_some (find id_cmp id (live_of s)) ≡ is_live s id
found_where_live s id =
    let kept : SiteCounter → Bool = λ q. not (is_replaced s q) in
    ap is_some (find-where_key id_cmp kept id (λ q t. ap kept (sym (ids_exact id q t))) (entries s.additions) ∙ ap (λ o. cond (kept id) o None) (sym (get-entries s.additions id)))
    ∙ both (kept id) (get s.additions id)
  where
    both : (b : Bool) (o : Option Record) → is_some (cond b o None) ≡ (is_some o && b)
    both true None = refl
    both true (Some r) = refl
    both false None = refl
    both false (Some r) = refl
