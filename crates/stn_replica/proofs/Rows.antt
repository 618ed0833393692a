-- Rows of bounds, one after the other.
use Rattle.std.{proofs.{Common.{rules, ◌≡◌, ℕ, suc, ◌+◌, ◌<◌, List, [], ◌∷◌, ◌++◌, length, take, drop, set, get_or, sym, ap, subst, ◌∙◌, append_assoc}, Math.Seq.split_at, lemmas.List.{set_split, take_more, Concat.flat_map-append, Sorted.{All-permutation, IsPermutation-append_comm, IsPermutation-append_left, IsPermutation-append_right, IsPermutation-trans}}}, specs.{Prelude.{All, Vec}, List.Sorted.IsPermutation}}
use Rattle.stn_net.specs.Difference.{Difference, NamesEvents}
use Rattle.stn_replica.specs.Rows.{in_turn}

module _ {A : Type 0} where
  -- a bound more in a row is a bound more
  pub in_turn_pushed : (rows : List (Vec Difference A)) {i : ℕ} (none new : Vec Difference A) (bound : Difference) → i < length rows
      → new.items ≡ (get_or rows i none).items ++ bound ∷ [] → IsPermutation (in_turn rows ++ bound ∷ []) (in_turn (set rows i new))
  in_turn_pushed rows {i} none new bound within items =
      let old : Vec Difference A = get_or rows i none in
      let front = in_turn (take i rows) in
      let behind = in_turn (drop (suc i) rows) in
      let was : in_turn rows ≡ (front ++ old.items) ++ behind =
      ap (λ r. in_turn r) (split_at rows i none within) ∙ flat_map-append (λ (r : Vec Difference A). r.items) (take i rows) (old ∷ drop (suc i) rows) ∙ sym (append_assoc front old.items behind) in
      let now : in_turn (set rows i new) ≡ (front ++ old.items) ++ (bound ∷ [] ++ behind) = search (rules, set_split, flat_map-append, append_assoc)
      in
      subst (λ l. IsPermutation (in_turn rows ++ bound ∷ []) l) (sym now)
      (subst (λ l. IsPermutation (l ++ bound ∷ []) ((front ++ old.items) ++ (bound ∷ [] ++ behind))) (sym was)
      (subst (λ l. IsPermutation l ((front ++ old.items) ++ (bound ∷ [] ++ behind))) (sym (append_assoc (front ++ old.items) behind (bound ∷ [])))
      (IsPermutation-append_right (front ++ old.items) (behind ++ bound ∷ []) (bound ∷ [] ++ behind) (IsPermutation-append_comm behind (bound ∷ [])))))

  -- the bounds up to a place stand in the rows, and then the next one too
  pub in_rows_next : (bounds : List Difference) {i : ℕ} {bound : Difference} (old new : List (Vec Difference A)) → i < length bounds → bound ≡ get_or bounds i bound
      → IsPermutation (take i bounds) (in_turn old) → IsPermutation (in_turn old ++ bound ∷ []) (in_turn new) → IsPermutation (take (i + 1) bounds) (in_turn new)
  in_rows_next bounds {i} {bound} old new within is so_far more =
      subst (λ l. IsPermutation l (in_turn new)) (sym (take_more bounds i bound within ∙ ap (λ b. take i bounds ++ b ∷ []) (sym is)))
      (IsPermutation-trans (take i bounds ++ bound ∷ []) (in_turn old ++ bound ∷ []) (in_turn new) (IsPermutation-append_left (bound ∷ []) (take i bounds) (in_turn old) so_far) more)

-- each bound of a list that has those of another, in some order, names the events that they name
pub named_of : {events : ℕ} {bounds found items : List Difference} {i : ℕ} {bound : Difference} → All (NamesEvents events) bounds → IsPermutation bounds found
    → items ≡ found → i < length items → bound ≡ get_or items i bound → NamesEvents events bound
named_of {events} {bounds} {found} {items} {i} {bound} named moved same within here =
    let each : All (NamesEvents events) items = subst (All (NamesEvents events)) (sym same) (All-permutation (NamesEvents events) bounds found moved named) in
    subst (NamesEvents events) (sym here) (each i bound within)
