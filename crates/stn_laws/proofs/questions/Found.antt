-- Bounds that begin with the horizon bounds have the tightest differences, along each of which a chain leads, or a first bound with
-- which they have no schedule.
use Rattle.std.{proofs.{Common.{rules, ◌≡◌, ◌⊎◌, inl, inr, ℕ, zero, suc, ◌+◌, ◌-◌, ◌<◌, ◌≤◌, Bool, true, false, cond, eqb, eqb-true, List, [], ◌∷◌, ◌++◌, length, take, refl, sym, subst, ap, ◌∙◌, arith}, lemmas.{Bool.eqb-false, Int.ints, List.{get_or_append_left, get_or_push, length_push, take-append-le, take_all, take_more, Elements.All-push}}}, specs.{Prelude.{ℤ, pos, neg_ℤ, ◌+ℤ◌, ◌-ℤ◌, ◌≤ℤ◌, All}, Int.int_min}}
use Rattle.stn_time.specs.Time.{horizon}
use Rattle.stn_net.{specs.{Difference.{Difference, NamesEvents}, Horizon.{horizon_bound, horizon_bounds}, Schedule.HasSchedule, Matrix.{Tightest.IsTightest, Closed.{IsClosed, IsWidest}, Way.{shorter, narrower, HasRoom}}, Windows.Window.IsWindow}, proofs.{WindowEnds.window_of_ends, Horizons.length-horizon_bounds, Tightest.{IsTight, row_is_schedule}, Closure.{narrower-closed, narrower-tight, schedule_before, schedule_last}, Widest.{widest-closed, widest-tight, horizon_named}}}
use Rattle.stn_conflict.{specs.{declared.links.{Link.Link, Side.TheVariants.{Upper, Lower}}, Arcs.{Arc, arc, arc_of, bound_at, IsChain, weight_of}}, proofs.Chains.chain_before}

-- the bound is about some of the events, and its sides are not crossed
pub record IsInOrder (events : ℕ) (bound : Difference) : Type 0 where
  pub named : NamesEvents events bound
  pub ordered : bound.lo ≤ℤ bound.hi

-- a chain leads from each event to each other, and weighs their difference
abbrev pub AreAlong : List Difference → ℕ → (ℕ → ℕ → ℤ) → Type 0
AreAlong bounds events far = (x y : ℕ) → x ≤ events → y ≤ events → (links : List Link) × IsChain bounds links x y × (weight_of bounds links ≡ far x y)

-- the tightest differences of so many events, along each of which a chain leads
pub record AreFound (bounds : List Difference) (events : ℕ) (far : ℕ → ℕ → ℤ) : Type 0 where
  pub named : All (NamesEvents events) bounds
  pub closed : IsClosed events far
  pub tight : IsTight bounds events far
  pub along : AreAlong bounds events far

pub possible_found : {bounds : List Difference} {events : ℕ} {far : ℕ → ℕ → ℤ} → AreFound bounds events far → HasSchedule bounds
possible_found {bounds} {events} {far} found =
    ((λ z. far 0 z -ℤ far 0 0), row_is_schedule bounds events far found.named found.closed.shortest found.tight 0 (omega arith))

pub tightest_found : {bounds : List Difference} {events : ℕ} {far : ℕ → ℕ → ℤ} → AreFound bounds events far → (x y : ℕ) → x ≤ events → y ≤ events → IsTightest bounds x y (far x y)
tightest_found {bounds} {events} {far} found x y xs ys =
    let itself = found.closed.shortest.itself x xs in
    record {
      bound = λ time is. found.tight.sound time is x y xs ys;
      attained = ((λ z. far x z -ℤ far x 0), row_is_schedule bounds events far found.named found.closed.shortest found.tight x xs, omega (arith, ints));
    }

-- the window of each event
pub window_found : {bounds : List Difference} {events : ℕ} {far : ℕ → ℕ → ℤ} → AreFound bounds events far → (event : ℕ) → event ≤ events
    → IsWindow bounds event (neg_ℤ (far event 0)) (far 0 event)
window_found {bounds} {events} {far} found event within =
    let none : 0 ≤ events = omega arith in
    window_of_ends _ event _ _ (tightest_found found event 0 within none) (tightest_found found 0 event none within)

-- ---- chains
chain-append : (bounds : List Difference) (links others : List Link) (x y z : ℕ) → IsChain bounds links x y → IsChain bounds others y z → IsChain bounds (links ++ others) x z
chain-append bounds [] others x y z one other = search rules
chain-append bounds (link ∷ links) others x y z (placed, from, rest) other = (placed, from, chain-append bounds links others _ y z rest other)

weight-append : (bounds : List Difference) (links others : List Link) → weight_of bounds (links ++ others) ≡ weight_of bounds links +ℤ weight_of bounds others
weight-append bounds [] others = omega (arith, ints)
weight-append bounds (link ∷ links) others = omega (arith, ints, weight-append bounds links others)

-- a chain over bounds is a chain over these and one more, and as heavy
chain-onward : (bounds : List Difference) (bound : Difference) (links : List Link) (x y : ℕ) → IsChain bounds links x y
    → IsChain (bounds ++ bound ∷ []) links x y × (weight_of (bounds ++ bound ∷ []) links ≡ weight_of bounds links)
chain-onward bounds bound links x y chain =
    let front : take (length bounds) (bounds ++ bound ∷ []) ≡ bounds = search (rules, take-append-le, take_all) in
    search (rules, chain_before)

int_min_cases : (m n : ℤ) → (int_min m n ≡ m) ⊎ (int_min m n ≡ n)
int_min_cases m n = search rules

-- by way of a link the lesser differences have chains too
along-shorter : (bounds : List Difference) (events : ℕ) (far : ℕ → ℕ → ℤ) (link : Link) (u v : ℕ) (w : ℤ) → link.place < length bounds
    → arc_of bounds link ≡ record { from = u; to = v; weight = w } → u ≤ events → v ≤ events → AreAlong bounds events far → AreAlong bounds events (shorter far u v w)
along-shorter bounds events far link u v w there is us vs along x y xs ys =
    let (links, chain, weighs) = along x y xs ys in
    let (before, to_link, first) = along x u xs us in
    let (after, from_link, last) = along v y vs ys in
    elim (int_min_cases _ _) [
      | inl e ↦ (links, chain, weighs ∙ sym e)
      | inr e ↦ (
        before ++ link ∷ after,
        chain-append bounds before (link ∷ after) x u y to_link (there, ap (λ (a : Arc). a.from) is, subst (λ (a : Arc). IsChain bounds after a.to y) (sym is) from_link),
        omega (arith, ints, weight-append bounds before (link ∷ after), first, last, ap (λ (a : Arc). a.weight) is, e),
      )
    ]

-- one more bound for which there is room
found_more : (bounds : List Difference) (events : ℕ) (far : ℕ → ℕ → ℤ) (bound : Difference) → AreFound bounds events far → NamesEvents events bound → bound.lo ≤ℤ bound.hi → HasRoom far bound
    → AreFound (bounds ++ bound ∷ []) events (narrower far bound)
found_more bounds events far bound found named ordered room = record {
  named = All-push (NamesEvents events) bounds bound found.named named;
  closed = narrower-closed events far bound found.closed named ordered room;
  tight = narrower-tight bounds events far bound found.closed.shortest named found.tight;
  along = along-shorter more events (shorter far bound.from bound.to bound.hi) (record { place = length bounds; side = Lower }) bound.to bound.from (neg_ℤ bound.lo) there (ap (λ b. arc b Lower) last) named.to named.from
      (along-shorter more events far (record { place = length bounds; side = Upper }) bound.from bound.to bound.hi there (ap (λ b. arc b Upper) last) named.from named.to onward);
}
  where
    more : List Difference
    more = bounds ++ bound ∷ []

    there : length bounds < length (bounds ++ bound ∷ [])
    there = omega (arith, length_push bounds bound)

    last : bound_at (bounds ++ bound ∷ []) (length bounds) ≡ bound
    last = get_or_push bounds bound _ (length bounds) refl

    onward : AreAlong (bounds ++ bound ∷ []) events far
    onward x y xs ys =
        let (links, chain, weighs) = found.along x y xs ys in
        let (whole, same) = chain-onward bounds bound links x y chain in
        (links, whole, same ∙ weighs)

-- ---- the horizon bounds
abbrev widest : ℕ → ℕ → ℤ
widest x y = cond (eqb y 0) (pos 0) (cond (eqb x y) (pos 0) horizon)

widest_is : (events : ℕ) → IsWidest events widest
widest_is events = search (rules)

horizon_at : (events place : ℕ) → place < events → bound_at (horizon_bounds events) place ≡ horizon_bound (suc place)
unfolding horizon_bounds
horizon_at zero place below = absurd (omega arith)
horizon_at (suc events) place below = search (rules, get_or_append_left, length-horizon_bounds, get_or_push, (horizon_at events place))

module _ (events : ℕ) where
  -- a chain from an event to the origin
  home : (x : ℕ) → x ≤ events → (links : List Link) × IsChain (horizon_bounds events) links x 0 × (weight_of (horizon_bounds events) links ≡ pos 0)
  home zero within = ([], refl, refl)
  home (suc x) within =
      let at = horizon_at events x (omega arith) in
      let link : Link = record { place = x; side = Lower } in
      let is : arc_of (horizon_bounds events) (record { place = x; side = Lower }) ≡ record { from = suc x; to = 0; weight = pos 0 } = ap (λ b. arc b Lower) at in
      (link ∷ [], (omega (arith, length-horizon_bounds events), ap (λ (a : Arc). a.from) is, ap (λ (a : Arc). a.to) is), omega (arith, ints, ap (λ (a : Arc). a.weight) is))

  away : (x y : ℕ) (a b : Bool) → eqb y 0 ≡ a → eqb x y ≡ b → x ≤ events → y ≤ events
      → (links : List Link) × IsChain (horizon_bounds events) links x y × (weight_of (horizon_bounds events) links ≡ cond a (pos 0) (cond b (pos 0) horizon))
  away x y true b e f xs ys =
      let (links, chain, weighs) = home x xs in
      search rules
  away x y false true e f xs ys = ([], eqb-true x y f, refl)
  away x zero false false e f xs ys = absurd (eqb-false zero 0 e refl)
  away x (suc y) false false e f xs ys =
      let (links, chain, weighs) = home x xs in
      let at = horizon_at events y (omega arith) in
      let link : Link = record { place = y; side = Upper } in
      let is : arc_of (horizon_bounds events) (record { place = y; side = Upper }) ≡ record { from = 0; to = suc y; weight = horizon } = ap (λ b. arc b Upper) at in (
        links ++ link ∷ [],
        chain-append _ links _ x 0 _ chain (omega (arith, length-horizon_bounds events), ap (λ (a : Arc). a.from) is, ap (λ (a : Arc). a.to) is),
        omega (arith, ints, weight-append (horizon_bounds events) links (link ∷ []), weighs, ap (λ (a : Arc). a.weight) is),
      )

  found_first : AreFound (horizon_bounds events) events widest
  found_first = search (rules, horizon_named, widest-closed, widest_is, widest-tight, away)

-- ---- any bounds
-- the first bound with which the bounds have no schedule, and the tightest differences before it
pub record IsFirstRefused (bounds : List Difference) (events place : ℕ) (far : ℕ → ℕ → ℤ) : Type 0 where
  pub there : place < length bounds
  pub before : AreFound (take place bounds) events far
  pub refused : ¬ HasSchedule (take (place + 1) bounds)

abbrev pub FoundOrRefused : List Difference → ℕ → ℕ → Type 0
FoundOrRefused bounds events count = ((far : ℕ → ℕ → ℤ) × AreFound (take count bounds) events far) ⊎ ((place : ℕ) × (far : ℕ → ℕ → ℤ) × IsFirstRefused bounds events place far)

room_or_none : (far : ℕ → ℕ → ℤ) (bound : Difference) → HasRoom far bound ⊎ (¬ HasRoom far bound)
room_or_none far bound = search rules

none_without_room : (bounds : List Difference) (events : ℕ) (far : ℕ → ℕ → ℤ) (bound : Difference) → AreFound bounds events far → NamesEvents events bound → ¬ HasRoom far bound
    → ¬ HasSchedule (bounds ++ bound ∷ [])
none_without_room bounds events far bound found named none (time, is) =
    let before = schedule_before _ _ time is in
    let met = schedule_last _ bound time is in
    let forth = found.tight.sound time before bound.from bound.to named.from named.to in
    let back = found.tight.sound time before bound.to bound.from named.to named.from in
    omega (arith, ints)

found_up_to : (events : ℕ) (bounds : List Difference) → take events bounds ≡ horizon_bounds events → All (IsInOrder events) bounds
    → (more count : ℕ) → count ≡ events + more → count ≤ length bounds → FoundOrRefused bounds events count
found_up_to events bounds begins each zero count is few =
    let e : events ≡ count = omega arith in
    inl (widest, subst (λ (l : List Difference). AreFound l events widest) (sym begins ∙ ap (λ n. take n bounds) e) (found_first events))
found_up_to events bounds begins each (suc more) count is few =
    let there : events + more < length bounds = omega arith in
    let bound = bound_at bounds (events + more) in
    let one : IsInOrder events (bound_at bounds (events + more)) = each (events + more) _ there in
    let e : (events + more) + 1 ≡ count = omega arith in
    let pushed : take (events + more) bounds ++ bound_at bounds (events + more) ∷ [] ≡ take count bounds = cc (take_more _ _ _ there) in
    elim (found_up_to _ _ begins each more _ refl (omega arith)) [
      | inr refused ↦ inr refused
      | inl (far, found) ↦ elim (room_or_none far bound) [
        | inl room ↦ inl (narrower far bound, subst (λ (l : List Difference). AreFound l events (narrower far bound)) pushed (found_more _ _ far bound found one.named one.ordered room))
        | inr none ↦ inr (
          events + more,
          far,
          record {
            there = there;
            before = found;
            refused = subst (λ (l : List Difference). ¬ HasSchedule l) (sym (take_more _ _ _ there)) (none_without_room _ _ far bound found one.named none);
          },
        )
      ]
    ]

-- the whole list
pub found_or_refused : (events : ℕ) (bounds : List Difference) → take events bounds ≡ horizon_bounds events → events ≤ length bounds → All (IsInOrder events) bounds
    → ((far : ℕ → ℕ → ℤ) × AreFound bounds events far) ⊎ ((place : ℕ) × (far : ℕ → ℕ → ℤ) × IsFirstRefused bounds events place far)
found_or_refused events bounds begins many each =
    let whole : take (length bounds) bounds ≡ bounds = take_all (length bounds) bounds (omega arith) in
    let either = found_up_to events bounds begins each (length bounds - events) (length bounds) (omega arith) (omega arith) in
    search rules
