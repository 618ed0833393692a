-- The repair by a record, by the tightest differences of its events over the others.
use Rattle.std.{proofs.{lemmas.{Grind.common_steps, List.get_or_read}, Common.{rules, ◌≡◌, ℕ, ℤ, neg_ℤ, ◌+◌, ◌<◌, ◌≤◌, List, ◌++◌, length, get_or, refl, sym, ap, subst, ◌∙◌, arith, All}}, specs.List.Any}
use Rattle.stn_conflict.{proofs.CycleSums.places_of_chain, specs.{declared.links.Link.Link, Arcs.IsNegativeCycle, Distances.{AreDistancesFrom, AreDistancesTo}}}
use Rattle.stn_net.{specs.{Difference.{Difference, NamesEvents}, Schedule.{HasSchedule, times_of}, Matrix.Tightest.IsTightest, Ranges.IsRange}, proofs.Ranges.range_of_ends}
use Rattle.stn_records.specs.{Id.SiteCounter, declared.record.Record.Record}
use Rattle.stn_site.specs.Bounds.{bounds_of}
use Rattle.stn_repairs.{specs.{Repairs.{others, IsRepair}, Links.IsLinkOf}, proofs.Cycles.lies_on}

pub repair_found : (base own rest : List Difference) (events n : ℕ) (id : SiteCounter) (bound : Difference) (from to place : ℕ) (back least far : ℤ) (there here : List ℤ)
    → own ≡ base → n ≡ events → NamesEvents events bound → from ≡ bound.from → to ≡ bound.to → place ≡ to
    → AreDistancesFrom (own ++ rest) n from there → AreDistancesTo (own ++ rest) n from here
    → back ≡ get_or here place back → least ≡ neg_ℤ back → far ≡ get_or there place far
    → IsRepair (base ++ rest) id bound (record { id = id; from = from; to = to; least = least; greatest = far })
repair_found base own rest events n id bound from to place back least far there here own_is count named from_is to_is place_is forth back_again read_back negated read_far =
    let at : place ≡ bound.to = place_is ∙ to_is in
    let within : bound.to ≤ n = omega (arith, named.to, count) in
    let all : own ++ rest ≡ base ++ rest = ap (λ (front : List Difference). front ++ rest) own_is in
    let far_is : far ≡ times_of there bound.to = search (rules, get_or_read) in
    let back_is : back ≡ times_of here bound.to = search (rules, get_or_read) in
    let least_is : least ≡ neg_ℤ (times_of here bound.to) = negated ∙ ap neg_ℤ back_is in
    let onward : IsTightest (base ++ rest) bound.from bound.to (times_of there bound.to) =
    subst (λ (b : List Difference). IsTightest b bound.from bound.to (times_of there bound.to)) all
    (subst (λ (f : ℕ). IsTightest (own ++ rest) f bound.to (times_of there bound.to)) from_is (forth.tightest bound.to within)) in
    let home : IsTightest (base ++ rest) bound.to bound.from (times_of here bound.to) =
    subst (λ (b : List Difference). IsTightest b bound.to bound.from (times_of here bound.to)) all
    (subst (λ (f : ℕ). IsTightest (own ++ rest) bound.to f (times_of here bound.to)) from_is (back_again.tightest bound.to within)) in
    let (time, is, attained) = onward.attained in
    record {
      possible = (time, is);
      of_record = refl;
      from = from_is;
      to = to_is;
      range = subst (λ (g : ℤ). IsRange (base ++ rest) bound.from bound.to least g) (sym far_is)
          (subst (λ (l : ℤ). IsRange (base ++ rest) bound.from bound.to l (times_of there bound.to)) (sym least_is)
          (range_of_ends (base ++ rest) bound.from bound.to (times_of here bound.to) (times_of there bound.to) home onward));
    }

pub cycle_places : (base own : List Difference) (live : List (SiteCounter × Record)) (links : List Link) → own ≡ base → IsNegativeCycle (base ++ bounds_of live) links
    → All (λ (link : Link). link.place < length own + length live) links
cycle_places base own live links own_is cycle = grind (arith, common_steps, places_of_chain)

-- where the cycle has no link of a record, the others have no schedule
pub not_on_cycle : (base own : List Difference) (live : List (SiteCounter × Record)) (id : SiteCounter) (links : List Link) → own ≡ base → IsNegativeCycle (base ++ bounds_of live) links
    → (Any (IsLinkOf (length own) live id) links → ⊥) → ¬ HasSchedule (others base live id)
not_on_cycle base own live id links own_is cycle none has =
    let (link, (k, below, at), is) = lies_on base live id links cycle has in
    search rules
