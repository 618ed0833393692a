use Rattle.std.{proofs.{Common.{rules, ◌≡◌, ℕ, ◌<◌, List, [], ◌∷◌, ◌++◌, length, take, sym, ap, refl, ◌∙◌, arith}, lemmas.{Int.ints, List.length-take}}, specs.{Prelude.{ℤ, ◌+ℤ◌}, List.AllByRecursion}}
use Rattle.stn_net.{specs.{Difference.Difference, Matrix.Tightest.IsTightest}, proofs.Tightest.tightest_unique}
use Rattle.stn_conflict.{specs.{declared.links.Link.Link, Arcs.{arc_of, IsChain, weight_of}, Named.{IsTight, IsTightChain, IsWay}}, proofs.Tightness.arc_before}

-- one chain and a link that begins where it ends are a chain
pub chain-push : (bounds : List Difference) (links : List Link) (link : Link) (x y : ℕ) → IsChain bounds links x y → link.place < length bounds → (arc_of bounds link).from ≡ y → IsChain bounds (links ++ link ∷ []) x (arc_of bounds link).to
chain-push bounds [] link x y chain there begins = (there, begins ∙ sym chain, refl)
chain-push bounds (first ∷ links) link x y (placed, from, rest) there begins = (placed, from, chain-push bounds links link _ y rest there begins)

-- the parts of a chain with a last link
pub record IsPushedChain (bounds : List Difference) (links : List Link) (link : Link) (x y : ℕ) : Type 0 where
  pub there : link.place < length bounds
  pub before : IsChain bounds links x (arc_of bounds link).from
  pub ends : (arc_of bounds link).to ≡ y

pub chain-unpush : (bounds : List Difference) (links : List Link) (link : Link) (x y : ℕ) → IsChain bounds (links ++ link ∷ []) x y → IsPushedChain bounds links link x y
chain-unpush bounds [] link x y (there, from, ends) = search rules
chain-unpush bounds (first ∷ links) link x y (placed, from, rest) =
    let parts = chain-unpush bounds links link _ y rest in
    record { there = parts.there; before = (placed, from, parts.before); ends = parts.ends }

pub each-weaker : (P Q : Link → Type 0) → ((link : Link) → P link → Q link) → (links : List Link) → AllByRecursion P links → AllByRecursion Q links
each-weaker P Q f [] all = tt
each-weaker P Q f (link ∷ links) all = (f link all.0, each-weaker P Q f links all.1)

-- a list that is not empty has a last element
pub last_of : (link : Link) (links : List Link) → (init : List Link) × (last : Link) × (link ∷ links ≡ init ++ last ∷ [])
last_of link [] = ([], link, refl)
last_of link (next ∷ links) =
    let (init, last, e) = last_of next links in
    (link ∷ init, last, ap (λ l. link ∷ l) e)

-- a way is a chain of tight links
pub way_is_tight : {bounds : List Difference} {start x : ℕ} {links : List Link} → IsWay bounds start x links → IsTightChain bounds start x links
way_is_tight way = search (rules, each-weaker)

-- over tight links the tightest difference grows by the sum of their weights
pub weight_of_tight : {bounds : List Difference} {start : ℕ} (links : List Link) {x y : ℕ} {m : ℤ} → IsTightest bounds start x m → IsChain bounds links x y → AllByRecursion (IsTight bounds start) links → IsTightest bounds start y (m +ℤ weight_of bounds links)
weight_of_tight [] far chain tight = search rules
weight_of_tight {bounds} {start} (link ∷ links) {x} {y} {m} far (placed, from, rest) (tight, others) =
    let (near, near_is, far_is) = tight.tight in
    let w = (arc_of bounds link).weight in
    let e = tightest_unique bounds start x near m (rw from at near_is) far in
    let whole = weight_of_tight links (rw e at far_is) rest others in
    let same : (m +ℤ w) +ℤ weight_of bounds links ≡ m +ℤ (w +ℤ weight_of bounds links) = omega (arith, ints) in
    rw same at whole

-- a chain over the bounds before a place is a chain over all of them, and as heavy
pub chain_before : (bounds : List Difference) (place : ℕ) (links : List Link) (x y : ℕ) → IsChain (take place bounds) links x y → IsChain bounds links x y × (weight_of (take place bounds) links ≡ weight_of bounds links)
chain_before bounds place [] x y chain = (chain, refl)
chain_before bounds place (link ∷ links) x y (placed, from, rest) =
    let below : link.place < place = omega (arith, placed, length-take place bounds) in
    let there : link.place < length bounds = omega (arith, placed, length-take place bounds) in
    let e = arc_before bounds link below in
    let (others, weights) = chain_before bounds place links _ y rest in
    ((there, rw e at from, rw e at others), rw (e, weights) refl)
