-- Which bounds a matrix shows to be implied, and the matrix with one bound more.
use Rattle.std.proofs.{Common.{rules, ◌≡◌, ◌<◌, ◌↔◌, Bool, IsTrue, List, [], ◌∷◌, ◌++◌, length, sym, ap, subst, ◌∙◌, append_assoc, length-append, arith}, lemmas.Int.ints}
use Rattle.stn_net.{specs.{Difference.{Difference, NamesEvents}, Horizon.horizon_bounds, Schedule.{IsSchedule, HasSchedule}, Matrix.{Table.Table, Tightest.IsExact}}, proofs.Closure.schedule_before}
use Rattle.stn_conflict.specs.Listing.{ListedBounds}
use Rattle.stn_records.specs.Content.{most_known}
use Rattle.stn_loosen.specs.{Loosened.Imply, Making.{loosening_of, made_bounds, with_more, AreTaken, IsShown, IsSearched}}

-- just what the table shows is implied by the bounds for which it is exact
pub shown_taken : (records : List Difference) (table : Table) (bound : Difference) → AreTaken records table → NamesEvents table.events bound
    → (IsShown table bound ↔ Imply (made_bounds (loosening_of table records)) bound)
shown_taken records table bound taken named =
    let forth = taken.exact.far bound.from bound.to named.from named.to in
    let back = taken.exact.far bound.to bound.from named.to named.from in (
      λ shown time s. (omega (arith, ints, back.bound time s, shown.1), omega (arith, ints, forth.bound time s, shown.0)),
      λ implied. (
        (let met = implied forth.attained.0 forth.attained.1 in omega (arith, ints, met.1, forth.attained.2)),
        (let met = implied back.attained.0 back.attained.1 in omega (arith, ints, met.0, back.attained.2)),
      ),
    )

-- and it is implied with more bounds, too
pub shown_searched : (records : List Difference) (table : Table) (network : ListedBounds) (bound : Difference) → IsSearched records table network → NamesEvents table.events bound
    → IsShown table bound → Imply (made_bounds (loosening_of table records)) bound
shown_searched records table network bound h named shown = λ time s. (
  (let back = h.apart time s bound.to bound.from named.to named.from in let within = shown.1 in omega (arith, ints)),
  (let forth = h.apart time s bound.from bound.to named.from named.to in let within = shown.0 in omega (arith, ints)),
)

-- all records are in the network, and the matrix is exact for them
pub searched_first : (records : List Difference) (table : Table) (network : ListedBounds) → AreTaken records table
    → network ≡ record { events = table.events; bounds = made_bounds (loosening_of table records) } → IsSearched records table network
searched_first records table network taken whole = record { whole = whole; apart = λ time s x y xs ys. (taken.exact.far x y xs ys).bound time s }

-- the network takes one record more
pub searched_more : (records more : List Difference) (bound : Difference) (table : Table) (old new : ListedBounds) → IsSearched records table old → more ≡ records ++ bound ∷ []
    → new ≡ record old { bounds = old.bounds ++ bound ∷ [] } → IsSearched more table new
searched_more records more bound table old new h made pushed =
    let all : made_bounds (loosening_of table records) ++ bound ∷ [] ≡ made_bounds (loosening_of table more) = search (rules, append_assoc)
    in
    record {
      whole = pushed ∙ ap (λ (l : ListedBounds). record l { bounds = l.bounds ++ bound ∷ [] }) h.whole
          ∙ ap (λ (l : List Difference). record { events = table.events; bounds = l }) all;
      apart = λ time s. h.apart time (schedule_before (made_bounds (loosening_of table records)) (bound ∷ []) time (subst (λ l. IsSchedule l time) (sym all) s));
    }

-- the matrix takes one record more
pub taken_more : (records more : List Difference) (bound : Difference) (old new : Table) (fits : Bool) → more ≡ records ++ bound ∷ [] → length records < most_known → AreTaken records old
    → HasSchedule (made_bounds (with_more (loosening_of old records) (bound ∷ [])))
    → ((bounds : List Difference) → IsExact bounds old → (IsTrue fits ↔ HasSchedule (bounds ++ bound ∷ [])))
    → ((bounds : List Difference) → IsExact bounds old → IsTrue fits → IsExact (bounds ++ bound ∷ []) new)
    → new.events ≡ old.events → AreTaken more new
taken_more records more bound old new fits is left taken there possible exact same =
    let front : List Difference = made_bounds (loosening_of old records) in
    let whole : front ++ bound ∷ [] ≡ made_bounds (with_more (loosening_of old records) (bound ∷ [])) = simp append_assoc in
    let fit : IsTrue fits = (possible front taken.exact).1 (subst HasSchedule (sym whole) there) in
    record {
      exact = subst (λ l. IsExact l new) (whole ∙ ap (λ l. made_bounds (loosening_of old l)) (sym is) ∙ ap (λ n. horizon_bounds n ++ more) (sym same)) (exact front taken.exact fit);
      few = omega (arith, left, ap length is, length-append records (bound ∷ []));
    }
