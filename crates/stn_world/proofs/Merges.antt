-- What a merge and a delivery can be refused for.
use Rattle.std.{proofs.{Common.{rules, inl, inr, refl, ◌≡◌, ◌≢◌, ℕ, ◌-◌, ltb}, lemmas.List.set-get_or}, specs.{Prelude.unwrap_or, Bool.then_some}}
use Rattle.stn_refusal.specs.declared.failure.Failure.{Failure}
use Rattle.stn_records.specs.Content.{Content, most_known, known_in_either, IsPart}
use Rattle.stn_site.{specs.{Held.Held, declared.faults.ReplicaFault.ReplicaFault, Failures.replica_failure, Refusals.take_refusal}, proofs.Refused.agreed_take}
use Rattle.stn_site.specs.declared.faults.ReplicaFault.TheVariants as replica_fault
use Rattle.stn_world.{specs.{World.{World, HasSite, held_at, content_at, packet_at, merge}, Steps.{IsMergeFailure, IsDeliveryFailure}, Whole.{IsWhole, IsCoherent}}, proofs.{Sites.joined_itself, Whole.{part_named, parts_agree}}}

-- a site that agrees with what it takes refuses it for its size or for lack of memory alone
agreed_fault : (P : Failure → Type 0) → P (replica_failure replica_fault.Full) → P (replica_failure replica_fault.Memory) → (held : Held) (theirs : Content) {fault : ReplicaFault}
    → take_refusal held theirs ≡ then_some (ltb most_known (known_in_either held.state theirs)) replica_fault.Full
    → fault ≡ unwrap_or (take_refusal held theirs) replica_fault.Memory → P (replica_failure fault)
agreed_fault P full memory held theirs room is = search rules

-- a site of a coherent world agrees with any part of the whole on every id, and the part's records are about the plan's events
pub take_agrees : (world : World) (all : Content) → IsWhole world all → (site : ℕ) (other : Content) → IsPart other all
    → take_refusal (held_at world site) other ≡ then_some (ltb most_known (known_in_either (content_at world site) other)) replica_fault.Full
take_agrees world all whole site other inside =
    agreed_take (held_at world site) other (part_named other whole inside) (parts_agree (content_at world site) other all (whole.sites site) inside)

-- so do two sites
pub merge_agrees : (world : World) (site other : ℕ) (fault : ReplicaFault) → IsCoherent world
    → fault ≡ unwrap_or (take_refusal (held_at world site) (content_at world other)) replica_fault.Memory → IsMergeFailure (replica_failure fault)
merge_agrees world site other fault coherent =
    agreed_fault IsMergeFailure (inr (inl refl)) (inr (inr refl)) (held_at world site) (content_at world other)
    (take_agrees world coherent.0 coherent.1 site (content_at world other) (coherent.1.sites other))

-- so do a site and a packet
pub delivery_agrees : (world : World) (site number : ℕ) (fault : ReplicaFault) → IsCoherent world
    → fault ≡ unwrap_or (take_refusal (held_at world site) (packet_at world number)) replica_fault.Memory → IsDeliveryFailure (replica_failure fault)
delivery_agrees world site number fault coherent =
    agreed_fault IsDeliveryFailure (inr (inr (inl refl))) (inr (inr (inr refl))) (held_at world site) (packet_at world number)
    (take_agrees world coherent.0 coherent.1 site (packet_at world number) (coherent.1.packets number))

-- a site that merges itself
pub one_site : {world : World} {ours theirs site other : ℕ} → ours ≡ theirs → ours ≡ site - 1 → theirs ≡ other - 1 → HasSite world site → HasSite world other → site ≡ other
one_site same a b there other_there = search rules

pub other_site : {ours theirs site other : ℕ} → ours ≡ site - 1 → theirs ≡ other - 1 → ours ≢ theirs → site ≢ other
other_site a b apart same = search rules

pub merged_itself : {world : World} {site other : ℕ} → site ≡ other → world ≡ merge world site other
merged_itself one = search (rules, joined_itself, set-get_or)
