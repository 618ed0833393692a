-- Orders that are kept, and those that are left out.
use Rattle.std.proofs.{Common.{rules, ◌≡◌, inl, inr, ⊎_elim, ℕ, ℤ, List, [], ◌∷◌, ◌++◌, sym, ap, subst, append_assoc, All}, lemmas.List.Elements.{All-nil, All-cons, All-head, All-tail}}
use Rattle.stn_net.{specs.{Difference.Difference, Schedule.{Meets, IsSchedule}}, proofs.{Closure.schedule_before, Schedules.{met_behind, schedule_with}}}
use Rattle.stn_loosen.specs.Loosened.{Imply, AreKept}

kept_same : (bounds kept others : List Difference) (first : Difference) → kept ≡ first ∷ others → bounds ++ kept ≡ (bounds ++ first ∷ []) ++ others
kept_same bounds kept others first is = cc (append_assoc bounds (first ∷ []) others)

-- what is kept of more
pub AreKept-join : (bounds first second one other : List Difference) → AreKept bounds first one → AreKept (bounds ++ one) second other → AreKept bounds (first ++ second) (one ++ other)
AreKept-join bounds [] second one other none are = search rules
AreKept-join bounds (order ∷ first) second one other kept are =
    ⊎_elim
    (λ p. inl (p.0, AreKept-join bounds first second one other p.1 are))
    (λ p.
    let same = kept_same bounds one p.1.0 order p.1.1 in
    inr (p.0, (p.1.0 ++ other, ap (λ l. l ++ other) p.1.1, AreKept-join (bounds ++ order ∷ []) first second p.1.0 other p.1.2 (subst (λ l. AreKept l second other) same are))))
    kept

-- what holds of all orders holds of those that are kept
pub kept_hold : (P : Difference → Type 0) (bounds orders kept : List Difference) → AreKept bounds orders kept → All P orders → All P kept
kept_hold P bounds [] kept none all = subst (All P) (sym none) all
kept_hold P bounds (first ∷ orders) kept are all =
    let later = All-tail P first orders all in
    ⊎_elim (λ p. kept_hold P bounds orders kept p.1 later)
    (λ p. subst (All P) (sym p.1.1) (All-cons P first p.1.0 (All-head P first orders all) (kept_hold P (bounds ++ first ∷ []) orders p.1.0 p.1.2 later))) are

-- the bounds, with the orders that are kept, imply all orders
all_implied : (bounds orders kept : List Difference) → AreKept bounds orders kept → All (Imply (bounds ++ kept)) orders
all_implied bounds [] kept none = All-nil (Imply (bounds ++ kept))
all_implied bounds (first ∷ orders) kept are =
    ⊎_elim
    (λ p. All-cons (Imply (bounds ++ kept)) first orders (λ time s. p.0 time (schedule_before bounds kept time s)) (all_implied bounds orders kept p.1))
    (λ p. All-cons (Imply (bounds ++ kept)) first orders
    (λ time s. All-head (Meets time) first p.1.0 (met_behind bounds (first ∷ p.1.0) time (subst (λ l. IsSchedule (bounds ++ l) time) p.1.1 s)))
    (subst (λ l. All (Imply l) orders) (sym (kept_same bounds kept p.1.0 first p.1.1)) (all_implied (bounds ++ first ∷ []) orders p.1.0 p.1.2)))
    are

-- the schedules of the bounds and what is kept of orders are those of the bounds and all orders
module _ (bounds orders kept : List Difference) (are : AreKept bounds orders kept) (time : ℕ → ℤ) where
  pub kept_schedule : IsSchedule (bounds ++ orders) time → IsSchedule (bounds ++ kept) time
  kept_schedule s = schedule_with bounds kept time (schedule_before bounds orders time s) (kept_hold (Meets time) bounds orders kept are (met_behind bounds orders time s))

  pub whole_schedule : IsSchedule (bounds ++ kept) time → IsSchedule (bounds ++ orders) time
  whole_schedule s = search (rules, schedule_with, schedule_before, all_implied)
