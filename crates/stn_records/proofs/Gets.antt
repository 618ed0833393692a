-- What is found in the entries of a finite map, and what holds of each of them.
use Rattle.std.{proofs.{Common.{rules, ◌≡◌, true, false, cond, List, [], ◌∷◌, Some, is_some, Ordering, is_eq, sym, refl, ap, subst, ◌∙◌, All}, lemmas.{Bool.{false≢true, and_parts}, List.Elements.{All-from_recursion, recursion_from_All}, Option.same_Some}}, specs.{List.AllByRecursion, Ordering.eq_by_cmp, Cmp.{IsTotalOrder, tied_itself, Equal-is}, FinMap.{FinMap, IsAntisymmetric, entries, get, get-entries, find, is_sorted}}}
use Rattle.stn_records.proofs.Entries.{in_order, find_below}

module _ {K X : Type 0} {R : K → K → Ordering} (o : IsTotalOrder R) (exact : IsAntisymmetric R) where
  each_found : (es : List (K × X)) → is_sorted R es ≡ true → (P : K × X → Type 0) → ((q : K) (v : X) → find R q es ≡ Some v → P (q, v)) → AllByRecursion P es
  each_found [] sorted P f = tt
  each_found (e ∷ es) sorted P f = (
    f e.0 e.1 (ap (λ r. cond (is_eq r) (Some e.1) (find R e.0 es)) (tied_itself o e.0)),
    each_found es (and_parts _ _ sorted).1 P (λ q v found. f q v (search (rules, find_below))),
  )

  -- what holds of each key and its value holds of each entry
  pub entries_from_get : (m : FinMap R X) (P : K × X → Type 0) → ((q : K) (v : X) → get m q ≡ Some v → P (q, v)) → All P (entries m)
  entries_from_get m P f = All-from_recursion P (entries m) (each_found (entries m) (in_order m) P (λ q v found. f q v (get-entries m q ∙ found)))

  found_each : (es : List (K × X)) (P : K × X → Type 0) → AllByRecursion P es → (q : K) (v : X) → find R q es ≡ Some v → P (q, v)
  found_each [] P h q v found = absurd (false≢true (ap is_some found))
  found_each (e ∷ es) P h q v found =
      elim (eq_by_cmp R q e.0) as (λ b. eq_by_cmp R q e.0 ≡ b → cond b (Some e.1) (find R q es) ≡ Some v → P (q, v)) [
        | true ↦ λ t is. let same : ◌≡◌ {A = K × X} e (q, v) = λ i. (sym (exact q e.0 ((Equal-is (R q e.0)).0 t)) i, same_Some e.1 v is i) in subst P same h.0
        | false ↦ λ t is. found_each es P h.1 q v is
      ] refl found

  -- and the way back
  pub get_from_entries : (m : FinMap R X) (P : K × X → Type 0) → All P (entries m) → (q : K) (v : X) → get m q ≡ Some v → P (q, v)
  get_from_entries m P h q v found = found_each (entries m) P (recursion_from_All P (entries m) h) q v (sym (get-entries m q) ∙ found)
