-- What refuses a step, and what an accepted step tells.
use Rattle.std.{proofs.Common.{rules, ◌≡◌, ◌≢◌, ℕ, ◌≤◌, true, ◌&&◌, leb, Option, Some, None, arith}, specs.{Prelude.{unwrap_or, option_map}, Bool.Decides, Option.option_or}}
use Rattle.stn_refusal.specs.{declared.{code.Code.TheVariants.{NoSite, NoPacket}, failure.Failure.Failure}, Refusals.{refused, out_of_memory}}
use Rattle.stn_records.specs.Content.{Content}
use Rattle.stn_site.specs.{declared.{faults.ReplicaFault.ReplicaFault, change.Change.Change}, Change.change_refusal, Failures.replica_failure, Refusals.take_refusal}
use Rattle.stn_site.specs.declared.faults.ReplicaFault.TheVariants as replica_fault
use Rattle.stn_world.{specs.{World.{World, HasSite, has_site, HasPacket, held_at, content_at, packet_at}, Steps.{changed, merged, sent, delivered, missing, step_refusal, IsAccepted}}, proofs.Parts.{IsSentOf, part_decides}}

both : {a b n : ℕ} → (leb a b && leb b n) ≡ true → (a ≤ b) × (b ≤ n)
both e = search rules

within : {a b n : ℕ} → a ≤ b → b ≤ n → (leb a b && leb b n) ≡ true
within least most = grind arith

pub site_decides : (world : World) (site : ℕ) → Decides (has_site world site) (HasSite world site)
site_decides world site = search rules

pub no_site : (world : World) (site : ℕ) (refusal : Option Failure) → ¬ HasSite world site → option_or (missing world site) refusal ≡ Some (refused NoSite)
no_site world site refusal missing = search rules

-- the fault of a call at a site that is not there
pub site_missing : {world : World} {site : ℕ} (refusal : Option Failure) {failure : Failure} → failure ≡ refused NoSite → ¬ HasSite world site
    → failure ≡ unwrap_or (option_or (missing world site) refusal) out_of_memory
site_missing {world} {site} refusal is gone = cc (no_site world site refusal gone)

-- a fault of a replica is the world's
pub refused_by : (refusal : Option ReplicaFault) {fault : ReplicaFault} → fault ≡ unwrap_or refusal replica_fault.Memory
    → replica_failure fault ≡ unwrap_or (option_map replica_failure refusal) out_of_memory
refused_by refusal e = search rules

-- a change is accepted where the site is there and its replica accepts it
pub accepted_change : (world : World) (site : ℕ) (asked : Change) → IsAccepted world (changed site asked) → HasSite world site × (change_refusal (held_at world site) asked ≡ None)
accepted_change world site asked e = search rules

pub accepted_merge : (world : World) (site other : ℕ) → IsAccepted world (merged site other) → HasSite world site × HasSite world other
accepted_merge world site other e = search rules

-- a site that merges itself
pub merge_itself : {world : World} {site other : ℕ} → HasSite world site → HasSite world other → site ≡ other → IsAccepted world (merged site other)
merge_itself there other_there same = search rules

-- two sites
pub merge_refusal : {world : World} {site other : ℕ} → HasSite world site → HasSite world other → site ≢ other
    → step_refusal world (merged site other) ≡ option_map replica_failure (take_refusal (held_at world site) (content_at world other))
merge_refusal there other_there apart = search rules

-- the other site is not there
pub other_missing : {world : World} {site other : ℕ} {failure : Failure} → HasSite world site → failure ≡ refused NoSite → ¬ HasSite world other
    → failure ≡ unwrap_or (step_refusal world (merged site other)) out_of_memory
other_missing there is gone = search rules

-- ---- sendings
pub accepted_sending : (world : World) (site : ℕ) (part : Content) → IsAccepted world (sent site part) → HasSite world site × IsSentOf part (content_at world site)
accepted_sending world site part e = search (rules, part_decides)

-- a site sends a part of what it holds
pub sending_free : {world : World} {site : ℕ} {part : Content} → HasSite world site → IsSentOf part (content_at world site) → IsAccepted world (sent site part)
sending_free there inside = search (rules, part_decides)

-- ---- deliveries
pub accepted_delivery : (world : World) (site number : ℕ) → IsAccepted world (delivered site number)
    → HasSite world site × (HasPacket world number × (take_refusal (held_at world site) (packet_at world number) ≡ None))
accepted_delivery world site number e = search rules

pub packet_missing : {world : World} {site number : ℕ} {failure : Failure} → HasSite world site → failure ≡ refused NoPacket → ¬ HasPacket world number
    → failure ≡ unwrap_or (step_refusal world (delivered site number)) out_of_memory
packet_missing there is gone = search rules

pub delivery_refusal : (world : World) (site number : ℕ) → HasSite world site → HasPacket world number
    → step_refusal world (delivered site number) ≡ option_map replica_failure (take_refusal (held_at world site) (packet_at world number))
delivery_refusal world site number there packet_there = search rules
