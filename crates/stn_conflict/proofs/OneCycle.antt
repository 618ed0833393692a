use Rattle.std.proofs.{Common.{rules, ◌≡◌, inl, inr, ℕ, zero, suc, ◌≤◌, List, [], ◌∷◌, ◌++◌, length, take, sym, ap, refl, ◌∙◌, arith}, lemmas.{Bool.cases_order, List.length_push}}
use Rattle.stn_time.proofs.Each.{each_parted}
use Rattle.stn_net.specs.{Difference.Difference, Schedule.HasSchedule}
use Rattle.stn_conflict.{specs.{declared.links.{Link.Link, Side.Side}, Arcs.{arc_of, bound_at, rank, side_rank}, Culprit.{IsRefusedSide, IsCulprit}, Named.{IsLevel, IsLevelStep, IsFirstStep, IsWay, IsNamedCycle}}, proofs.{Tightness.schedule_earlier, Chains.{IsPushedChain, chain-unpush, last_of}}}

-- links of one place and one side are equal
pub link_same : {p q : ℕ} {s t : Side} → p ≡ q → s ≡ t → (let one : Link = record { place = p; side = s } in let other : Link = record { place = q; side = t } in one ≡ other)
link_same e f = cc

pub side_low : (side : Side) → side_rank side ≤ 1
side_low side = search rules

-- links of equal rank are equal
pub rank_tells : (one other : Link) → rank one ≡ rank other → one ≡ other
rank_tells one other e = search rules

-- an event has one level
pub level_unique : (bounds : List Difference) (start x i k : ℕ) → IsLevel bounds start x i → IsLevel bounds start x k → i ≡ k
level_unique bounds start x i k one other = omega arith

-- the start has the level 0
pub level_of_start : {bounds : List Difference} {start : ℕ} → IsLevel bounds start start 0
level_of_start = search rules

-- no step ends at the start
pub no_step_to_start : {bounds : List Difference} {start : ℕ} {link : Link} → (arc_of bounds link).to ≡ start → ¬ IsLevelStep bounds start link
no_step_to_start {bounds} {start} e step =
    let (k, from, to) = step.level in
    let here : IsLevel bounds start start (suc k) = rw e at to in
    omega (arith, level_unique bounds start start 0 (suc k) (level_of_start) here)

-- two first steps that end at one event are one link
pub first_step_unique : {bounds : List Difference} {start : ℕ} {one other : Link} → (arc_of bounds one).to ≡ (arc_of bounds other).to → IsFirstStep bounds start one → IsFirstStep bounds start other → one ≡ other
first_step_unique e p q = search rules

-- a way that is not empty has a last first step, and before it is a way to where that begins
unpush_way : {bounds : List Difference} {start x : ℕ} {links : List Link} {link : Link} → IsWay bounds start x (links ++ link ∷ []) → IsPushedChain bounds links link start x × IsWay bounds start (arc_of bounds link).from links × IsFirstStep bounds start link
unpush_way {bounds} {start} {x} {links} {link} way =
    let parts = chain-unpush bounds links link start x way.chain in
    let (others, last) = each_parted (IsFirstStep bounds start) links (link ∷ []) way.first in
    (parts, record { chain = parts.before; first = others }, last.0)

-- an event has one way at most; n bounds the length of one
way_unique_by : {bounds : List Difference} {start : ℕ} (n : ℕ) {x : ℕ} (one other : List Link) → length one ≤ n → IsWay bounds start x one → IsWay bounds start x other → one ≡ other
way_unique_by n [] [] short p q = refl
way_unique_by {bounds} {start} n {x} [] (link ∷ links) short p q =
    let (init, last, e) = last_of link links in
    let (parts, way, step) = unpush_way (rw e at q) in
    absurd (no_step_to_start (parts.ends ∙ sym p.chain) step.step)
way_unique_by {bounds} {start} n {x} (link ∷ links) [] short p q =
    let (init, last, e) = last_of link links in
    let (parts, way, step) = unpush_way (rw e at p) in
    absurd (no_step_to_start (parts.ends ∙ sym q.chain) step.step)
way_unique_by zero (link ∷ links) (link' ∷ links') short p q = absurd (omega arith)
way_unique_by {bounds} {start} (suc n) {x} (link ∷ links) (link' ∷ links') short p q =
    let (init, last, e) = last_of link links in
    let (init', last', e') = last_of link' links' in
    let (parts, way, step) = unpush_way (rw e at p) in
    let (parts', way', step') = unpush_way (rw e' at q) in
    let same = first_step_unique (parts.ends ∙ sym parts'.ends) step step' in
    let long : length init ≤ n = omega (arith, ap length e, length_push init last) in
    let before = way_unique_by n init init' long way (rw same way') in
    e ∙ ap (λ l. l ++ last ∷ []) before ∙ ap (λ l. init' ++ l ∷ []) same ∙ sym e'

-- an event has one way at most
pub way_unique : (bounds : List Difference) (start x : ℕ) (one other : List Link) → IsWay bounds start x one → IsWay bounds start x other → one ≡ other
way_unique bounds start x one other = way_unique_by (length one) one other (omega arith)

-- bounds refuse one side of a bound
refused_side_unique : (bounds : List Difference) (bound : Difference) {one other : Side} → IsRefusedSide bounds bound one → IsRefusedSide bounds bound other → one ≡ other
refused_side_unique bounds bound p q = search rules

-- bounds that have a schedule have one up to each place
has_before : (bounds : List Difference) {i k : ℕ} → i ≤ k → HasSchedule (take k bounds) → HasSchedule (take i bounds)
has_before bounds {i} {k} below (time, is) = (time, schedule_earlier bounds below is)

-- bounds have one culprit at most
pub culprit_unique : {bounds : List Difference} {one other : Link} → IsCulprit bounds one → IsCulprit bounds other → one ≡ other
culprit_unique {bounds} {one} {other} p q =
    elim (cases_order one.place other.place) [
      | inr (inl below) ↦ absurd (p.refused (has_before bounds (omega arith) q.before))
      | inr (inr above) ↦ absurd (q.refused (has_before bounds (omega arith) p.before))
      | inl place ↦
          let side' : IsRefusedSide (take one.place bounds) (bound_at bounds one.place) other.side = rw place q.side in
          let side = refused_side_unique (take one.place bounds) (bound_at bounds one.place) p.side side' in
          link_same place side
    ]

-- bounds have one named cycle at most
pub named_cycle_unique : (bounds : List Difference) (one other : List Link) → IsNamedCycle bounds one → IsNamedCycle bounds other → one ≡ other
named_cycle_unique bounds [] other p q = absurd p
named_cycle_unique bounds (link ∷ links) [] p q = absurd q
named_cycle_unique bounds (link ∷ links) (link' ∷ links') (culprit, way) (culprit', way') =
    let same = culprit_unique culprit culprit' in
    let there : IsWay (take link.place bounds) (arc_of bounds link).to (arc_of bounds link).from links' = rw same way' in
    let rest = way_unique (take link.place bounds) (arc_of bounds link).to (arc_of bounds link).from links links' way there in
    ap (λ l. l ∷ links) same ∙ ap (λ l. link' ∷ l) rest
