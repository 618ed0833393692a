use Rattle.std.{proofs.{Common.{rules, ◌≡◌, ℕ, true, not, List, [], ◌∷◌, get_or, filter, inl, inr, ap, subst}, lemmas.{Bool.{and_from, Decides.eqb_tells}, List.Elements.{All-from_recursion, recursion_from_All, All-nil, All-cons, All-head, All-tail, All-append}}}, specs.Prelude.{◌⊎◌, ◌≢◌, All, flat_map}}
use Rattle.stn_time.proofs.Each.{All-left, All-right}
use Rattle.stn_net.specs.Difference.{Difference}
use Rattle.stn_site.proofs.Live.{All-passing, All-filter_passing}
use Rattle.stn_guard.specs.{declared.splitting.Arc.Arc, Owners.{is_at, is_owned, is_shared}, Making.{upper, lower, arcs_of, shared_arcs}}

-- what holds of all of the pieces, one after the other
pub all_pieces : {X Y : Type 0} (f : X → List Y) (P : Y → Type 0) (xs : List X) → All (λ x. All P (f x)) xs → All P (flat_map f xs)
all_pieces {X} f P [] all = All-nil P
all_pieces {X} f P (x ∷ xs) all =
    All-append P (f x) (flat_map f xs) (All-head (λ (y : X). All P (f y)) x xs all) (all_pieces f P xs (All-tail (λ (y : X). All P (f y)) x xs all))

pub all_of_pieces : {X Y : Type 0} (f : X → List Y) (P : Y → Type 0) (xs : List X) → All P (flat_map f xs) → All (λ x. All P (f x)) xs
all_of_pieces {X} f P [] all = All-nil (λ (x : X). All P (f x))
all_of_pieces {X} f P (x ∷ xs) all =
    All-cons (λ (y : X). All P (f y)) x xs (All-left P (f x) (flat_map f xs) all) (all_of_pieces f P xs (All-right P (f x) (flat_map f xs) all))

-- what holds of both sides of each shared bound holds of all sides, and the other way round
module _ (owner : ℕ → ℕ) (bounds : List Difference) (P : Arc → Type 0) where
  pub sides_all : All (λ bound. is_shared owner bound ≡ true → P (upper bound) × P (lower bound)) bounds → All P (shared_arcs owner bounds)
  sides_all each =
      all_pieces arcs_of P (filter (is_shared owner) bounds)
      (All-filter_passing (is_shared owner) (λ bound. All P (arcs_of bound)) bounds
      (λ k d h shared. let both = each k d h shared in All-from_recursion P (arcs_of (get_or bounds k d)) (both.0, (both.1, tt))))

  pub sides_each : All P (shared_arcs owner bounds) → All (λ bound. is_shared owner bound ≡ true → P (upper bound) × P (lower bound)) bounds
  sides_each all k d h shared =
      let pieces = all_of_pieces arcs_of P (filter (is_shared owner) bounds) all in
      let both = recursion_from_All P (arcs_of (get_or bounds k d)) (All-passing (is_shared owner) (λ bound. All P (arcs_of bound)) bounds pieces k d h shared) in
      (both.0, both.1.0)

-- an event is at its owner, and the origin at each site
pub at_owner : (owner : ℕ → ℕ) (event : ℕ) → is_at owner (owner event) event ≡ true
at_owner owner event = search rules

pub at_origin : (owner : ℕ → ℕ) (site : ℕ) {event : ℕ} → event ≡ 0 → is_at owner site event ≡ true
at_origin owner site e = cc

-- a bound is its events' owner's own, or shared
pub own_or_shared : (owner : ℕ → ℕ) (bound : Difference) → ((site : ℕ) × (is_owned owner site bound ≡ true)) ⊎ (is_shared owner bound ≡ true)
own_or_shared owner bound = elim (eqb_tells bound.from 0) [
  | inl origin ↦ inl (owner bound.to, and_from _ _ (at_origin owner (owner bound.to) origin.1) (at_owner owner bound.to))
  | inr from ↦ elim (eqb_tells bound.to 0) [
    | inl origin ↦ inl (owner bound.from, and_from _ _ (at_owner owner bound.from) (at_origin owner (owner bound.from) origin.1))
    | inr to ↦ elim (eqb_tells (owner bound.from) (owner bound.to)) [
      | inl same ↦ inl (owner bound.to, and_from _ _ (subst (λ site. is_at owner site bound.from ≡ true) same.1 (at_owner owner bound.from)) (at_owner owner bound.to))
      | inr differ ↦ inr (and_from _ _ (ap not from.0) (and_from _ _ (ap not to.0) (ap not differ.0)))
    ]
  ]
]

-- neither event of a shared bound is the origin, and they have different owners
pub shared_parts : (owner : ℕ → ℕ) (bound : Difference) → is_shared owner bound ≡ true → (bound.from ≢ 0) × (bound.to ≢ 0) × (owner bound.from ≢ owner bound.to)
shared_parts owner bound shared = search rules

-- a shared bound is no site's own
pub shared_not_own : (owner : ℕ → ℕ) (bound : Difference) (site : ℕ) → is_shared owner bound ≡ true → is_owned owner site bound ≡ true → ⊥
shared_not_own owner bound site shared own = search rules
