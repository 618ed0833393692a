-- The first link of which something holds that can be told.
use Rattle.std.{proofs.Common.{rules, ◌≡◌, ◌⊎◌, inl, inr, ℕ, ◌+◌, ◌/◌, ◌%◌, ◌<◌, eqb, refl, arith}, specs.Prelude.if◌then◌else◌}
use Rattle.stn_matrix.proofs.Told.{Told, least_below}
use Rattle.stn_conflict.{specs.{declared.links.{Link.Link, Side.TheVariants.{Upper, Lower}}, Arcs.rank}, proofs.OneCycle.rank_tells}

-- the link of a rank
abbrev link_at : ℕ → Link
link_at n = record { place = n / 2; side = if eqb (n % 2) 0 then Upper else Lower }

rank_at : (n : ℕ) → rank (link_at n) ≡ n
rank_at n = search (rules)

module _ (P : Link → Type 0) (told : (link : Link) → Told (P link)) where
  abbrev AtRank : ℕ → Type 0
  AtRank n = (link : Link) × (rank link ≡ n) × P link

  told_at : (n : ℕ) → Told (AtRank n)
  told_at n = let either = told (link_at n) in search (rules, rank_at, rank_tells)

  -- the first of the links of which it holds, or none of those of the first ranks
  pub first_below : (n : ℕ) → ((link : Link) × P link × ((other : Link) → rank other < rank link → ¬ P other)) ⊎ ((link : Link) → rank link < n → ¬ P link)
  first_below n =
      elim (least_below AtRank told_at n) [
        | inl (k, (link, e, holds), none) ↦ inl (link, holds, λ other before so. none (rank other) (omega (arith, e, before)) (other, refl, so))
        | inr none ↦ inr (λ link below so. none (rank link) below (link, refl, so))
      ]

  -- where it holds of some link
  pub first_of_some : (some : Link) → P some → (link : Link) × P link × ((other : Link) → rank other < rank link → ¬ P other)
  first_of_some some is = let either = first_below (rank some + 1) in search rules
