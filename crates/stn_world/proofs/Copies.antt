-- The copies of a world's sites, each seen as what it holds.
use Rattle.std.{proofs.{Common.{rules, ◌≡◌, ◌≢◌, ℕ, zero, suc, ◌+◌, ◌-◌, ◌<◌, List, [], ◌∷◌, length, map, set, get_or, refl, sym, subst, arith}, lemmas.List.{length-map, map-set, Edits.{get_or-remove_below, get_or-remove_above}}, Math.ListN.get_or-map}, specs.{List.{insert, remove}, Prelude.Result}}
use Rattle.stn_lift.specs.PlanSource.{PlanSource}
use Rattle.stn_records.specs.Content.{Content}
use Rattle.stn_site.specs.Held.{Held}
use Rattle.stn_refusal.specs.declared.failure.Failure.{Failure}
use Rattle.stn_world.{specs.{Sites.world_of, Whole.IsSoundWorld, World.{World, HasSite}, Steps.Step}, proofs.{Sites.place_within, Calls.{IsPlaced, IsTaken, world_stayed}}}

module _ {C : Type 0} (held : C → Held) where
  -- ---- a copy at a place
  pub got : (copies : List C) (place : ℕ) (one : C) → one ≡ get_or copies place one → held one ≡ get_or (map held copies) place (held one)
  got copies place one same = cc (get_or-map held copies place one)

  pub within : {world : World} {source : PlanSource} {packets : List Content} {place : ℕ} (copies : List C) → world_of source (map held copies) packets ≡ world
      → place < length world.sites → place < length copies
  within copies is there = omega (arith, place_within (map held copies) is there, length-map copies held)

  pub placed : {world : World} {source : PlanSource} {packets : List Content} {place site : ℕ} (copies : List C) (one : C)
      → world_of source (map held copies) packets ≡ world → IsSoundWorld source (map held copies) packets → place ≡ site - 1 → HasSite world site → one ≡ get_or copies place one
      → IsPlaced world source (map held copies) packets place site (held one)
  placed {place = place} copies one is sound at there same = search (rules, got)

  -- ---- a copy that changes
  pub taken : {T : Type 0} {world : World} {source : PlanSource} {packets : List Content} {call : Step} {Given : T → Type 0} {result : Result T Failure} (copies : List C) (place : ℕ) (new : C)
      → IsTaken world source (set (map held copies) place (held new)) packets call Given result → IsTaken world source (map held (set copies place new)) packets call Given result
  taken {T = T} {world = world} {source = source} {packets = packets} {call = call} {Given = Given} {result = result} copies place new is =
      subst (λ (l : List Held). IsTaken {T = T} world source l packets call Given result) (sym (map-set held copies place new)) is

  pub stayed : {world : World} {source : PlanSource} {packets : List Content} {place site : ℕ} (copies : List C) (one new : C) → IsPlaced world source (map held copies) packets place site (held one)
      → new ≡ one → world_of source (map held (set copies place new)) packets ≡ world
  stayed {source = source} {packets = packets} {place = place} copies one new at same = search (rules, map-set, world_stayed)

  -- ---- a copy that is taken out, and put back
  pub put_back : (copies : List C) (place : ℕ) (new : C) → place < length copies → insert (remove copies place) place new ≡ set copies place new
  put_back [] place new there = absurd (omega arith)
  put_back (one ∷ copies) zero new there = refl
  put_back (one ∷ copies) (suc place) new there = cc (put_back copies place new (omega arith))

  pub beside : (copies : List C) (out place at : ℕ) (one : C) → out < length copies → place ≢ out → (place < out → at ≡ place) → (out < place → at + 1 ≡ place)
      → one ≡ get_or (remove copies out) at one → one ≡ get_or copies place one
  beside copies out place at one there apart before after is = search (rules, get_or-remove_below, get_or-remove_above)
