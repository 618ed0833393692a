use Rattle.std.{proofs.{Common.{rules, ◌≡◌, ℕ, ℤ, pos, true, cond, eqb, List, ◌++◌, inl, inr, refl, sym, ap, subst, ◌∙◌}, lemmas.{Bool.{eq-eqb, Decides.eqb_tells}, List.Elements.{All-append, All-weaker, All-filter}}}, specs.Prelude.{◌↔◌, All, flat_map}}
use Rattle.stn_site.proofs.Live.{All-passing, All-filter_passing}
use Rattle.stn_time.proofs.Each.{All-left, All-right}
use Rattle.stn_net.{proofs.Closure.schedule_before, specs.{Difference.Difference, Schedule.{Meets, IsSchedule, HasSchedule}, Windows.Window.IsInWindow}}
use Rattle.stn_guard.{specs.{Owners.{is_at, is_owned, own_bounds}, Guard.Guards}, proofs.Owned.{all_pieces, at_owner}}

-- each event takes the time that its owner gives it
abbrev glued : (ℕ → ℕ) → (ℕ → ℕ → ℤ) → ℕ → ℤ
glued owner times event = cond (eqb event 0) (pos 0) (times (owner event) event)

-- what is at a site takes the time that the site gives it
glued_at : (owner : ℕ → ℕ) (times : ℕ → ℕ → ℤ) {site event : ℕ} → times site 0 ≡ pos 0 → is_at owner site event ≡ true → glued owner times event ≡ times site event
glued_at owner times origin at = search rules

-- so they meet what the site's times meet of the site's own bounds
glued_meets : (owner : ℕ → ℕ) (times : ℕ → ℕ → ℤ) {site : ℕ} (bound : Difference) → times site 0 ≡ pos 0 → is_owned owner site bound ≡ true
    → Meets (times site) bound → Meets (glued owner times) bound
glued_meets owner times bound origin own met = search rules

-- times that meet the site's own bounds
pub own_met : (owner : ℕ → ℕ) (site : ℕ) (bounds : List Difference) {time : ℕ → ℤ} → IsSchedule (own_bounds owner site bounds) time
    → All (λ bound. is_owned owner site bound ≡ true → Meets time bound) bounds
own_met owner site bounds {time} schedule = All-passing (is_owned owner site) (Meets time) bounds schedule.met

pub own_schedule : (owner : ℕ → ℕ) (site : ℕ) (bounds : List Difference) {time : ℕ → ℤ} → time 0 ≡ pos 0
    → All (λ bound. is_owned owner site bound ≡ true → Meets time bound) bounds → IsSchedule (own_bounds owner site bounds) time
own_schedule owner site bounds origin met = search (rules, All-filter_passing)

glued_met : (owner : ℕ → ℕ) (times : ℕ → ℕ → ℤ) {site : ℕ} (bounds : List Difference) → IsSchedule (own_bounds owner site bounds) (times site)
    → All (λ bound. is_owned owner site bound ≡ true → Meets (glued owner times) bound) bounds
glued_met owner times {site} bounds schedule =
    All-weaker (λ bound. is_owned owner site bound ≡ true → Meets (times site) bound) (λ bound. is_owned owner site bound ≡ true → Meets (glued owner times) bound)
    (λ bound met own. glued_meets owner times bound schedule.origin own (met own)) bounds (own_met owner site bounds schedule)

-- where each site's times meet its own bounds of the guarded ones, all of them together are a schedule
glued_schedule : {owner : ℕ → ℕ} {bounds guard : List Difference} {times : ℕ → ℕ → ℤ} → Guards owner bounds guard
    → ((site : ℕ) → IsSchedule (own_bounds owner site (bounds ++ guard)) (times site)) → IsSchedule (bounds ++ guard) (glued owner times)
glued_schedule {owner} {bounds} {guard} {times} guards each = guards.enough (glued owner times)
    (λ site. own_schedule owner site (bounds ++ guard) refl (glued_met owner times (bounds ++ guard) (each site)))

own_front : (owner : ℕ → ℕ) (site : ℕ) (bounds more : List Difference) {time : ℕ → ℤ} → IsSchedule (own_bounds owner site (bounds ++ more)) time
    → IsSchedule (own_bounds owner site bounds) time
own_front owner site bounds more {time} schedule = own_schedule owner site bounds schedule.origin
    (All-left (λ bound. is_owned owner site bound ≡ true → Meets time bound) bounds more (own_met owner site (bounds ++ more) schedule))

-- sites that keep to bounds of their own have a schedule together
pub glue : (owner : ℕ → ℕ) (bounds guard : List Difference) (added : ℕ → List Difference) (sites : List ℕ) → Guards owner bounds guard
    → ((site : ℕ) → All (λ bound. is_owned owner site bound ≡ true) (added site))
    → ((site : ℕ) → HasSchedule (own_bounds owner site ((bounds ++ guard) ++ added site)))
    → HasSchedule ((bounds ++ guard) ++ flat_map added sites)
glue owner bounds guard added sites guards own each =
    let times : ℕ → ℕ → ℤ = λ site. (each site).0 in
    let whole = glued_schedule guards (λ site. own_front owner site (bounds ++ guard) (added site) (each site).1) in
    let here : (site : ℕ) → All (Meets (glued owner times)) (added site) = (λ site k d h.
    All-right (λ bound. is_owned owner site bound ≡ true → Meets (glued owner times) bound) (bounds ++ guard) (added site)
    (glued_met owner times ((bounds ++ guard) ++ added site) (each site).1) k d h (own site k d h)) in (
      glued owner times,
      record {
        origin = refl;
        met = All-append (Meets (glued owner times)) (bounds ++ guard) (flat_map added sites) whole.met
            (all_pieces added (Meets (glued owner times)) sites (λ k d h. here _));
      },
    )

-- the one site's times where it is the site, else the other
abbrev chosen : (ℕ → ℤ) → (ℕ → ℤ) → ℕ → ℕ → ℕ → ℤ
chosen one other site which = cond (eqb which site) one other

chosen_schedule : (owner : ℕ → ℕ) {bounds : List Difference} {one other : ℕ → ℤ} (site which : ℕ) → IsSchedule (own_bounds owner site bounds) one
    → IsSchedule bounds other → IsSchedule (own_bounds owner which bounds) (chosen one other site which)
chosen_schedule owner {bounds} {one} {other} site which mine whole = elim (eqb_tells which site) [
  | inl same ↦ subst (λ t. IsSchedule (own_bounds owner which bounds) (cond t one other)) (sym same.0)
      (subst (λ s. IsSchedule (own_bounds owner s bounds) one) (sym same.1) mine)
  | inr differs ↦ subst (λ t. IsSchedule (own_bounds owner which bounds) (cond t one other)) (sym differs.0)
      (record { origin = whole.origin; met = All-filter (is_owned owner which) (Meets other) bounds whole.met })
]

-- an event's window is its window by its owner's own bounds alone
pub own_windows : (owner : ℕ → ℕ) (bounds guard : List Difference) → Guards owner bounds guard → (event : ℕ) (time : ℤ)
    → (IsInWindow (bounds ++ guard) event time ↔ IsInWindow (own_bounds owner (owner event) (bounds ++ guard)) event time)
own_windows owner bounds guard guards event time = (
  (λ whole. (whole.0, record { origin = whole.1.origin; met = All-filter (is_owned owner (owner event)) (Meets whole.0) (bounds ++ guard) whole.1.met }, whole.2)),
  (λ own.
      let times : ℕ → ℕ → ℤ = chosen own.0 guards.possible.0 (owner event) in
      let each : (site : ℕ) → IsSchedule (own_bounds owner site (bounds ++ guard)) (times site) =
      (λ site. chosen_schedule owner (owner event) site own.1 guards.possible.1) in
      let mine : times (owner event) event ≡ own.0 event = ap (λ t. cond t own.0 guards.possible.0 event) (eq-eqb (owner event) (owner event) refl) in (
        glued owner times,
        glued_schedule guards each,
        glued_at owner times (each (owner event)).origin (at_owner owner event) ∙ mine ∙ own.2,
      )),
)

-- only bounds that have a schedule are guarded
pub guarded_possible : (owner : ℕ → ℕ) (bounds guard : List Difference) → Guards owner bounds guard → HasSchedule bounds
guarded_possible owner bounds guard guards = search (rules, schedule_before)
