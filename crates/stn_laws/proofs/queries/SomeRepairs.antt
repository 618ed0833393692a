-- Each plan and each state have a text of what mends a conflict.
use Rattle.std.{proofs.{lemmas.{Grind.common_steps, List.Elements.{All-append, All-filter, All-head, All-tail, All-weaker}}, Common.{rules, ◌≡◌, ◌⊎◌, inl, inr, ℕ, ℤ, List, [], ◌∷◌, ◌++◌, not, filter, map, codes, take, neg_ℤ, refl, arith}}, specs.{Prelude.All, List.flat_map, Set.is_member}}
use Rattle.stn_net.{specs.{Difference.{Difference, IsBoundWithin}, Horizon.horizon_bounds, Schedule.HasSchedule}, proofs.Ranges.range_of_ends}
use Rattle.stn_lift.specs.PlanSource.{PlanSource, events_of, base_bounds, IsSoundSource}
use Rattle.stn_records.specs.{Id.{SiteCounter, same_ids}, Record.same_marks, declared.record.{Record.Record, Mark.TheVariants.{Plain, Done}}, Content.{Content, live_of}}
use Rattle.stn_conflict.proofs.Known.{known_within, known_first}
use Rattle.stn_site.{specs.Lines.line, proofs.Named.{records_from_bounds, bounds_from_records}}
use Rattle.stn_repairs.specs.{declared.repair.Repair.Repair, Repairs.{without, others, IsRepair, AreRepairs}, Dropped.{marked, AreRefused}, Text.{repair_line, drop_line, IsRepairsText}}
use Rattle.stn_laws.proofs.questions.{Found.{AreFound, IsInOrder, possible_found, tightest_found, found_or_refused}, SomeReport.IsSoundState}

abbrev Entries : Type 0
Entries = List (SiteCounter × Record)

-- the bounds begin with the horizon bounds of so many events, and each is one of these events, with sides in order
pub record IsBegun (events : ℕ) (bounds : List Difference) : Type 0 where
  pub horizon : take events bounds ≡ horizon_bounds events
  pub each : All (IsInOrder events) bounds

-- so are the bounds of the records
abbrev pub InOrder : ℕ → Entries → Type 0
InOrder events records = All (λ entry. IsInOrder events entry.1.bound) records

-- there are the tightest differences, or no schedule
pub found_or_none : {events : ℕ} {bounds : List Difference} → IsBegun events bounds → ((far : ℕ → ℕ → ℤ) × AreFound bounds events far) ⊎ (¬ HasSchedule bounds)
found_or_none {events} {bounds} begun = grind (arith, common_steps, found_or_refused, known_within)

-- more bounds
pub more_begun : {events : ℕ} {bounds : List Difference} (more : List Difference) → IsBegun events bounds → All (IsInOrder events) more → IsBegun events (bounds ++ more)
more_begun {events} {bounds} more begun each = grind (arith, common_steps, known_first)

one_begun : {events : ℕ} {bounds : List Difference} {bound : Difference} → IsBegun events bounds → IsInOrder events bound → IsBegun events (bounds ++ bound ∷ [])
one_begun {events} {bounds} {bound} begun one = grind (arith, common_steps, known_first)

module _ (base : List Difference) (events : ℕ) (begun : IsBegun events base) (live : Entries) (each : InOrder events live) where
  -- a record mends the conflict, or not
  repair_or_none : (entry : SiteCounter × Record) → IsInOrder events entry.1.bound
      → ((repair : Repair) × IsRepair (others base live entry.0) entry.0 entry.1.bound repair) ⊎ (¬ HasSchedule (others base live entry.0))
  repair_or_none entry one =
      let rest = without live entry.0 in
      let left = All-filter (λ (e : SiteCounter × Record). not (same_ids e.0 entry.0)) (λ e. IsInOrder events e.1.bound) live each in
      let bounds = others base live entry.0 in
      let from = entry.1.bound.from in
      let to = entry.1.bound.to in
      elim (found_or_none (more_begun _ begun (bounds_from_records (IsInOrder events) rest left))) [
        | inr none ↦ inr none
        | inl (far, found) ↦
            let early = tightest_found found to from one.named.to one.named.from in
            let late = tightest_found found from to one.named.from one.named.to in
            inl (
              record { id = entry.0; from = from; to = to; least = neg_ℤ (far to from); greatest = far from to },
              record { possible = possible_found found; of_record = refl; from = refl; to = refl; range = range_of_ends _ from to _ _ early late },
            )
      ]

  pub some_repairs : (rest : Entries) → InOrder events rest → (repairs : List Repair) × AreRepairs base live rest repairs
  some_repairs [] left = ([], refl)
  some_repairs (entry ∷ rest) left =
      let (later, are) = some_repairs rest (All-tail (λ (e : SiteCounter × Record). IsInOrder events e.1.bound) entry rest left) in
      elim (repair_or_none entry (All-head (λ (e : SiteCounter × Record). IsInOrder events e.1.bound) entry rest left)) [
        | inl (repair, is) ↦ (repair ∷ later, inr (repair, later, is, are, refl))
        | inr none ↦ (later, inl (none, are))
      ]

-- the records that are refused, one after the other
some_refused : (events : ℕ) (kept : List Difference) (order : Entries) → IsBegun events kept → InOrder events order → (refused : List SiteCounter) × AreRefused kept order refused
some_refused events kept [] begun each = ([], refl)
some_refused events kept (entry ∷ rest) begun each =
    let left = All-tail (λ (e : SiteCounter × Record). IsInOrder events e.1.bound) entry rest each in
    let more = one_begun begun (All-head (λ (e : SiteCounter × Record). IsInOrder events e.1.bound) entry rest each) in
    elim (found_or_none more) [
      | inl (far, found) ↦
          let (refused, are) = some_refused _ _ rest more left in
          (refused, inl (possible_found found, are))
      | inr none ↦ (let (refused, are) = some_refused _ kept rest begun left in (entry.0 ∷ refused, inr (none, refused, are, refl)))
    ]

-- the plan's own bounds have a schedule, so none of them is crossed
pub base_begun : (source : PlanSource) → IsSoundSource source → IsBegun (events_of source) (base_bounds source)
base_begun source sound = search (rules)

-- the bounds of live records are in order
pub live_in_order : {source : PlanSource} {state : Content} → IsSoundState source state → InOrder (events_of source) (live_of state)
live_in_order {source} {state} sound =
    All-weaker (λ (e : SiteCounter × Record). IsBoundWithin (events_of source) e.1.bound) (λ e. IsInOrder (events_of source) e.1.bound)
    (λ e one. record { named = one.named; ordered = one.ordered }) _ (records_from_bounds (IsBoundWithin (events_of source)) (live_of state) sound.live)

pub some_repairs_text : {source : PlanSource} {state : Content} → IsSoundState source state → (text : List ℕ) × IsRepairsText source state text
some_repairs_text {source} {state} sound =
    let base = base_bounds source in
    let live = live_of state in
    let events = events_of source in
    let begun = base_begun _ sound.based in
    let each = live_in_order sound in
    elim (found_or_none
    (more_begun _ begun (bounds_from_records (IsInOrder (events_of source)) live each))) [
      | inl (far, found) ↦ (line (codes "ok"), inl (possible_found found, refl))
      | inr none ↦
          let (repairs, are) = some_repairs base _ begun live each live each in
          let done = All-filter (λ (e : SiteCounter × Record). same_marks e.1.mark Done) (λ e. IsInOrder (events_of source) e.1.bound) live each in
          let plain = All-filter (λ (e : SiteCounter × Record). same_marks e.1.mark Plain) (λ e. IsInOrder (events_of source) e.1.bound) live each in
          let (refused, in_turn) = some_refused _ base _ begun
          (All-append (λ (e : SiteCounter × Record). IsInOrder (events_of source) e.1.bound) (marked Done live) (marked Plain live) done plain) in
          let dropped = filter (λ id. is_member same_ids refused id) (map (λ (e : SiteCounter × Record). e.0) live) in (
            flat_map repair_line repairs ++ drop_line dropped,
            inr (record {
              conflict = none;
              repairs = repairs;
              are = are;
              dropped = dropped;
              drop = record { refused = refused; in_turn = in_turn; in_order = refl };
              whole = refl;
            }),
          )
    ]
