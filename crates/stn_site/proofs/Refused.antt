-- The first cause that refuses each call, from what its parts answer.
use Rattle.std.{proofs.{Common.{rules, ◌≡◌, ◌≢◌, ℕ, ℤ, ◌≤◌, Bool, true, false, ltb, Option, Some, None, refl}, lemmas.Bool.{false≢true, cases_lt, Decides.Decides-by_and}}, specs.{Prelude.{unwrap_or, option_map}, Bool.{Decides, then_some}, Option.option_or, List.list_all, FinMap.entries}}
use Rattle.stn_net.specs.{Difference.{Difference, NamesEvents, IsBoundWithin, IsFaultOf}, declared.bound.BoundFault.{BoundFault, TheVariants.NoEvent}}
use Rattle.stn_lift.specs.PlanSource.{events_of}
use Rattle.stn_records.{specs.{Id.{most_counter, SiteCounter}, declared.{record.Record.Record, faults.RecordsFault.RecordsFault}, Refusals.{addition_refusal as records_add, join_refusal as records_take, withdrawal_refusal as records_withdraw}, Content.{most_known, Content, is_known, known_in_either, next_counter, dispute_contents, content_taken}}, proofs.{Outcomes.too_many, FirstCauses.take_free, Holding.held_agrees}}
use Rattle.stn_records.specs.declared.faults.RecordsFault.TheVariants as records
use Rattle.stn_site.specs.{declared.faults.ReplicaFault.{ReplicaFault, TheVariants.{Bound, Full, Clash, Memory}}, Bounds.RecordsName, FaultsOf.of_records_fault, Held.{Held, difference}, Refusals.{names_events, next_refusal, add_refusal, amend_refusal, done_refusal, withdraw_refusal, records_name, take_refusal}}

-- ---- what the records answer
-- a fault of the records is the replica's, where their first causes are the same
pub told : (cause : Option RecordsFault) (same : Option ReplicaFault) → option_map of_records_fault cause ≡ same
    → (fault : RecordsFault) → fault ≡ unwrap_or cause records.Memory → of_records_fault fault ≡ unwrap_or same Memory
told cause same e fault is = search rules

-- and where there is none, none stands against the replica
pub let_through : (cause : Option RecordsFault) (same : Option ReplicaFault) → option_map of_records_fault cause ≡ same → cause ≡ None → same ≡ None
let_through cause same e none = cc

mapped : (b : Bool) (fault : RecordsFault) → option_map of_records_fault (then_some b fault) ≡ then_some b (of_records_fault fault)
mapped b fault = search rules

-- a record under the site's next id is refused only for want of room
pub next_added : (held : Held) (one : Record) (id : SiteCounter) → next_counter held.state held.site ≤ most_counter → is_known held.state id ≡ false
    → option_map of_records_fault (records_add held.state id one) ≡ next_refusal held
next_added held one id counter unknown = search rules

names_decides : (events : ℕ) (bound : Difference) → Decides (names_events events bound) (NamesEvents events bound)
names_decides events bound = search rules

-- an addition of a bound of the plan is refused as the next record is, and an amendment by it, where the old id is known
pub add_passes : (held : Held) (bound : Difference) → IsBoundWithin (events_of held.source) bound → add_refusal held bound ≡ next_refusal held
add_passes held bound within = search rules

pub amend_known : (held : Held) (old : SiteCounter) (bound : Difference) → IsBoundWithin (events_of held.source) bound → is_known held.state old ≡ true → amend_refusal held old bound ≡ next_refusal held
amend_known held old bound within known = search rules

-- an addition of a difference with a fault is refused, and an amendment by it
pub add_refused : (held : Held) (bound : Difference) (fault : BoundFault) → IsFaultOf (events_of held.source) bound fault → add_refusal held bound ≡ Some (Bound fault)
add_refused held bound fault is = search rules

pub done_origin : (held : Held) (event : ℕ) → event ≡ 0 → done_refusal held event ≡ Some (Bound NoEvent)
done_origin held event is = cc

-- the bound that fixes an event other than the origin is refused only where the plan has no such event
pub fixed_refused : (held : Held) (origin event : ℕ) (time : ℤ) (fault : BoundFault) → origin ≡ 0 → event ≢ 0 → IsFaultOf (events_of held.source) (difference origin event time time) fault
    → done_refusal held event ≡ Some (Bound fault)
fixed_refused held origin event time fault first other past = search rules

-- ---- takes
pub records_name-decides : (events : ℕ) (state : Content) → Decides (records_name events state) (RecordsName events state)
records_name-decides events state =
    Decides-by_and (λ (entry : SiteCounter × Record). names_events events entry.1.bound) (λ entry. NamesEvents events entry.1.bound)
    (list_all (λ (entry : SiteCounter × Record). names_events events entry.1.bound)) (λ entry. names_decides events entry.1.bound) refl (λ _ _. refl) (entries state.additions)

named_take : (held : Held) (other : Content) → RecordsName (events_of held.source) other
    → take_refusal held other ≡ option_or (option_map Clash (dispute_contents held.state other)) (then_some (ltb most_known (known_in_either held.state other)) Full)
named_take held other named = search (rules, records_name-decides)

pub unnamed_take : (held : Held) (other : Content) → ¬ RecordsName (events_of held.source) other → take_refusal held other ≡ Some (Bound NoEvent)
unnamed_take held other unnamed = search (rules, records_name-decides)

pub agreed_take : (held : Held) (other : Content) → RecordsName (events_of held.source) other → dispute_contents held.state other ≡ None
    → take_refusal held other ≡ then_some (ltb most_known (known_in_either held.state other)) Full
agreed_take held other named agreed = search (rules, named_take)

-- so what another site holds is refused by the records
pub taken_in : (held : Held) (other : Content) → RecordsName (events_of held.source) other → option_map of_records_fault (records_take held.state other) ≡ take_refusal held other
taken_in held other named = search (rules, named_take)

-- where all is held already, nothing stands against a take
pub can_hold : (held : Held) (other : Content) → RecordsName (events_of held.source) other → content_taken held.state other ≡ Some held.state → take_refusal held other ≡ None
can_hold held other named is =
    let agreed = held_agrees held.state other is in
    let few : known_in_either held.state other ≤ most_known = search (rules, cases_lt, false≢true, too_many)
    in
    search (rules, let_through, taken_in, take_free)

-- ---- withdrawals
pub withdrawn : (held : Held) (id : SiteCounter) → option_map of_records_fault (records_withdraw held.state id) ≡ withdraw_refusal held id
withdrawn held id = search rules

-- ---- what an accepted call tells
pub or_none : {X : Type 0} (o p : Option X) → option_or o p ≡ None → (o ≡ None) × (p ≡ None)
or_none o p e = search rules

-- the old id of an amendment that is accepted is known
pub amended_known : (held : Held) (old : SiteCounter) (bound : Difference) → amend_refusal held old bound ≡ None → is_known held.state old ≡ true
amended_known held old bound e = search rules
