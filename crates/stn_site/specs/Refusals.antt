-- Why a replica refuses a call: the first cause that stands against it. Where there is none, nothing but lack of memory can stop it.
use Rattle.std.specs.{Prelude.{ℕ, Bool, not, ◌==◌, ◌&&◌, nat_lt, nat_le, int_lt, Option, option_map}, Bool.then_some, Option.option_or, List.list_all, FinMap.entries}
use Rattle.stn_net.specs.{Difference.Difference, declared.bound.BoundFault.{BoundFault, TheVariants.{NoEvent, SameEvent, Crossed}}}
use Rattle.stn_lift.specs.PlanSource.{events_of}
use Rattle.stn_records.specs.{Id.{most_counter, SiteCounter}, Content.{most_known, Content, is_known, known_count, known_in_either, next_counter, dispute_contents}}
use Rattle.stn_site.specs.{declared.faults.ReplicaFault.{ReplicaFault, TheVariants.{Bound, CounterSpent, Full, Unknown, Clash}}, Held.Held}

-- both events of the difference are the origin or one of so many others
abbrev pub names_events : ℕ → Difference → Bool
names_events events bound = nat_le bound.from events && nat_le bound.to events

-- a difference is no bound of a plan with so many events: an event is not one of them, both are the same, the sides are crossed
abbrev pub bound_refusal : ℕ → Difference → Option BoundFault
bound_refusal events bound =
    option_or (then_some (not (names_events events bound)) NoEvent)
    (option_or (then_some (bound.from == bound.to) SameEvent)
    (then_some (int_lt bound.hi bound.lo) Crossed))

-- a site can make no further record: its counter is spent, it knows as many ids as it may
abbrev pub next_refusal : Held → Option ReplicaFault
next_refusal held =
    option_or (then_some (nat_lt most_counter (next_counter held.state held.site)) CounterSpent)
    (then_some (known_count held.state == most_known) Full)

-- an addition: what is added is no bound, the site can make no further record
abbrev pub add_refusal : Held → Difference → Option ReplicaFault
add_refusal held bound = option_or (option_map Bound (bound_refusal (events_of held.source) bound)) (next_refusal held)

-- an amendment: what is added is no bound, the id to be replaced is not known, the site can make no further record
abbrev pub amend_refusal : Held → SiteCounter → Difference → Option ReplicaFault
amend_refusal held old bound =
    option_or (option_map Bound (bound_refusal (events_of held.source) bound))
    (option_or (then_some (not (is_known held.state old)) Unknown) (next_refusal held))

-- a record that an event is done: the event is the origin or not one of the plan's, the site can make no further record
abbrev pub done_refusal : Held → ℕ → Option ReplicaFault
done_refusal held event =
    option_or (then_some (not (nat_lt 0 event && nat_le event (events_of held.source))) (Bound NoEvent)) (next_refusal held)

-- a withdrawal: the id is not known
abbrev pub withdraw_refusal : Held → SiteCounter → Option ReplicaFault
withdraw_refusal held id = then_some (not (is_known held.state id)) Unknown

-- each record, live or not, names the origin or one of so many events
abbrev pub records_name : ℕ → Content → Bool
records_name events state = list_all (λ entry. names_events events entry.1.bound) (entries state.additions)

-- taking in what another site holds: a record is about an event that the plan lacks, an id has two different records or replaces two
-- different ids, the site would know more ids than it may
abbrev pub take_refusal : Held → Content → Option ReplicaFault
take_refusal held other =
    option_or (then_some (not (records_name (events_of held.source) other)) (Bound NoEvent))
    (option_or (option_map Clash (dispute_contents held.state other))
    (then_some (nat_lt most_known (known_in_either held.state other)) Full))
