-- A record without which the others have a schedule lies on each negative cycle.
use Rattle.std.{proofs.{Common.{rules, ◌≡◌, ◌≢◌, ℕ, ℤ, ◌-◌, ◌<◌, ◌≤◌, true, not, List, [], ◌∷◌, ◌++◌, length, map, get_or, refl, sym, ap, subst, ◌∙◌, inl, inr, ⊎_elim, arith, ◌⊎◌, length-append}, lemmas.{Bool.cases_lt, Int.ints, List.{get_or_append_left, get_or-append_right, get_or-map, length-map, Elements.{All-contains, Contains-append_left, Contains-append_right, Contains-get_or}}}}, specs.{Prelude.{◌-ℤ◌, ◌≤ℤ◌}, List.Contains}}
use Rattle.stn_net.specs.{Difference.Difference, Schedule.{Meets, HasSchedule}}
use Rattle.stn_conflict.{specs.{declared.links.Link.Link, Arcs.{bound_at, IsChain, weight_of, IsNegativeCycle}}, proofs.Tightness.arc_kept}
use Rattle.stn_records.specs.{Id.{SiteCounter, same_ids}, declared.record.{Mark.TheVariants.Plain, Record.Record}}
use Rattle.stn_site.specs.{Bounds.bounds_of, Names.name_in, declared.names.BoundName.TheVariants.{Record as of_record}}
use Rattle.stn_repairs.{specs.{Repairs.{without, others}, Links.IsLinkOf}, proofs.Elements.{first_of, later_of, first_or_later, kept_by, mapped}}

-- over a chain of links whose bounds are met, times grow by its weight at most
chain_kept : (bounds : List Difference) (time : ℕ → ℤ) (links : List Link) (x y : ℕ) → ((link : Link) → Contains links link → link.place < length bounds → Meets time (bound_at bounds link.place))
    → IsChain bounds links x y → (time y -ℤ time x) ≤ℤ weight_of bounds links
chain_kept bounds time [] x y met chain = search rules
chain_kept bounds time (link ∷ links) x y met (there, from, rest) =
    let e = ap time from in
    omega (
      arith,
      ints,
      arc_kept (bound_at bounds link.place) link.side time (met link (first_of link links) there),
      chain_kept bounds time links _ y (λ other has. met other (later_of link links other has)) rest,
    )

nothing : SiteCounter × Record
nothing = (record { site = 0; counter = 0 }, record { mark = Plain; bound = bound_at [] 0 })

not_same : (a b : SiteCounter) → a ≢ b → not (same_ids a b) ≡ true
not_same a b apart = search rules

is_link_or_not : (count : ℕ) (live : List (SiteCounter × Record)) (id : SiteCounter) (link : Link) → IsLinkOf count live id link ⊎ (IsLinkOf count live id link → ⊥)
is_link_or_not count live id link = search rules

module _ (base : List Difference) (live : List (SiteCounter × Record)) (id : SiteCounter) where
  -- a bound of the plan, or of another record, is one of the others
  other_bound : (link : Link) → link.place < length (base ++ bounds_of live) → (IsLinkOf (length base) live id link → ⊥)
      → Contains (others base live id) (bound_at (base ++ bounds_of live) link.place)
  other_bound link there differs =
      ⊎_elim
      (λ before.
      subst (Contains (others base live id)) (sym (get_or_append_left base (bounds_of live) _ link.place before))
      (Contains-append_left base (bounds_of (without live id)) _ (Contains-get_or base link.place _ before)))
      (λ past.
      let within : link.place - length base < length live = omega (arith, there, length-append base (bounds_of live), length-map live (λ (entry : SiteCounter × Record). entry.1.bound)) in
      record_bound link past within differs)
      (cases_lt link.place (length base))
    where
      record_bound : (link : Link) → length base ≤ link.place → link.place - length base < length live → (IsLinkOf (length base) live id link → ⊥)
          → Contains (others base live id) (bound_at (base ++ bounds_of live) link.place)
      record_bound link past within differs =
          let is : bound_at (base ++ bounds_of live) link.place ≡ (get_or live (link.place - length base) nothing).1.bound =
          get_or-append_right base (bounds_of live) (length base) link.place _ refl past
          ∙ get_or-map (λ (e : SiteCounter × Record). e.1.bound) live (link.place - length base) nothing _ within in
          let apart : (get_or live (link.place - length base) nothing).0 ≢ id = λ same. differs (past, get_or-map (λ (e : SiteCounter × Record). e.0) live (link.place - length base) nothing _ within ∙ same) in
          subst (Contains (others base live id)) (sym is)
          (Contains-append_right base (bounds_of (without live id)) _
          (mapped (λ (e : SiteCounter × Record). e.1.bound) (without live id) (get_or live (link.place - length base) nothing)
          (kept_by (λ (e : SiteCounter × Record). not (same_ids e.0 id)) live (get_or live (link.place - length base) nothing)
          (Contains-get_or live (link.place - length base) nothing within) (not_same (get_or live (link.place - length base) nothing).0 id apart))))

  -- a link that is of the record, or none of the links is
  find_link : (links : List Link) → ((link : Link) × Contains links link × IsLinkOf (length base) live id link) ⊎ ((link : Link) → Contains links link → IsLinkOf (length base) live id link → ⊥)
  find_link [] = search rules
  find_link (first ∷ links) =
      ⊎_elim
      (λ here. inl (first, first_of first links, here))
      (λ not_here. ⊎_elim
      (λ found. inl (found.0, later_of first links found.0 found.1, found.2))
      (λ none. inr (λ link has is. ⊎_elim
      (λ same. not_here (subst (IsLinkOf (length base) live id) (sym same) is))
      (λ later. none link later is)
      (first_or_later first links link has)))
      (find_link links))
      (is_link_or_not (length base) live id first)

  -- a record without which the others have a schedule
  pub lies_on : (links : List Link) → IsNegativeCycle (base ++ bounds_of live) links → HasSchedule (others base live id)
      → (link : Link) × Contains links link × IsLinkOf (length base) live id link
  lies_on links cycle (time, is) =
      ⊎_elim
      (λ found. found)
      (λ none.
      let (x, chain) = cycle.closed in
      absurd (omega (
        arith,
        ints,
        cycle.negative,
        chain_kept (base ++ bounds_of live) time links x x
            (λ link has there. All-contains (Meets time) (others base live id) _ is.met (other_bound link there (none link has))) chain,
      )))
      (find_link links)

-- the name of the bound at a link of the record
pub named_link : (base : List Difference) (live : List (SiteCounter × Record)) (id : SiteCounter) (link : Link) → IsLinkOf (length base) live id link
    → name_in base (map (λ (entry : SiteCounter × Record). entry.0) live) link.place ≡ of_record id
named_link base live id link is = search rules
