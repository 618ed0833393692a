-- The calls of a world as steps: why one is refused, what it leaves, and what it brings to each site.
use Rattle.std.specs.{Prelude.{◌≡◌, ℕ, ◌+◌, ◌==◌, nat_le, ◌⊎◌, ◌↔◌, Bool, not, fold, List, [], ◌∷◌, length, Option, None, option_map, is_some, unwrap_or, Result, Ok, Err, if◌then◌else◌}, Bool.then_some, Option.option_or}
use Rattle.stn_refusal.specs.declared.code.Code.TheVariants as code
use Rattle.stn_refusal.specs.{declared.failure.Failure.Failure, Refusals.{refused, out_of_memory}}
use Rattle.stn_records.specs.Content.{Content, Item, HasItem}
use Rattle.stn_site.specs.{declared.change.Change.Change, Change.{change_call, change_refusal}, Calls.{Brought, CountAlike}, Failures.replica_failure, Refusals.take_refusal}
use Rattle.stn_world.specs.{Parts.is_part, World.{World, most_packets, has_site, has_packet, content_at, packet_at, held_at, next_id_at, with_call, merge, send, deliver}}

-- a step: a site makes a change, takes in all that another holds, sends any part of what it holds, or takes in a packet, of any age
pub data Step : Type 0 where
  changed : ℕ → Change → Step
  merged : ℕ → ℕ → Step
  sent : ℕ → Content → Step
  delivered : ℕ → ℕ → Step

-- the world lacks the site
abbrev pub missing : World → ℕ → Option Failure
missing world site = then_some (not (has_site world site)) (refused code.NoSite)

-- the first cause that refuses the step: a site is not there, a packet is not there, or the site's replica refuses it; a site may take in
-- what it holds itself, and sends only what it holds. Where there is none, nothing but lack of memory can stop it
abbrev pub step_refusal : World → Step → Option Failure
step_refusal world (changed site asked) = option_or (missing world site) (option_map replica_failure (change_refusal (held_at world site) asked))
step_refusal world (merged site other) =
    option_or (missing world site) (option_or (missing world other)
    (if site == other then None else option_map replica_failure (take_refusal (held_at world site) (content_at world other))))
step_refusal world (sent site part) = option_or (missing world site) (then_some (not (is_part part (content_at world site))) (refused code.Unknown))
step_refusal world (delivered site number) =
    option_or (missing world site) (option_or (then_some (not (has_packet world number)) (refused code.NoPacket))
    (option_map replica_failure (take_refusal (held_at world site) (packet_at world number))))

abbrev pub IsAccepted : World → Step → Type 0
IsAccepted world step = step_refusal world step ≡ None

-- the world that an accepted step leaves
abbrev pub after : World → Step → World
after world (changed site asked) = with_call world site (change_call asked (next_id_at world site))
after world (merged site other) = merge world site other
after world (sent site part) = send world part
after world (delivered site number) = deliver world site number

-- a step that is accepted is taken, and one that is refused changes nothing
abbrev pub stepped : World → Step → World
stepped world step = if is_some (step_refusal world step) then world else after world step

-- a run: any steps, one after the other
abbrev pub run : World → List Step → World
run = fold stepped

-- a call is a step: it is accepted and leaves what the step leaves, or its failure is what refuses the step, or else lack of memory, and
-- nothing has changed
abbrev pub IsStep : {T : Type 0} → World → Step → Result T Failure → World → Type 0
IsStep old step (Ok value) new = IsAccepted old step × (new ≡ after old step)
IsStep old step (Err failure) new = (failure ≡ unwrap_or (step_refusal old step) out_of_memory) × (new ≡ old)

-- why a call that sends is refused: the site is not there, a packet more would be too many, the site holds not all that is to be sent
abbrev pub send_refusal : World → ℕ → Bool → Option Failure
send_refusal world site held =
    option_or (missing world site) (option_or (then_some (nat_le most_packets (length world.packets)) (refused code.TooManyPackets))
    (then_some (not held) (refused code.Unknown)))

-- a call that sends is a step, but for the limit of packets: no cause stands against it, it is accepted, leaves what the step leaves and
-- gives the number of the new packet; or its failure is the first such cause, or else lack of memory, and nothing has changed
abbrev pub IsSending : World → Step → Option Failure → Result ℕ Failure → World → Type 0
IsSending old step refusal (Ok number) new = (refusal ≡ None) × IsAccepted old step × (new ≡ after old step) × (number ≡ length old.packets + 1)
IsSending old step refusal (Err failure) new = (failure ≡ unwrap_or refusal out_of_memory) × (new ≡ old)

-- the step brings the item to the site: what its own change brings, what another site holds, or what the packet holds
abbrev pub Brings : World → Step → ℕ → Item → Type 0
Brings world (changed at asked) site item = (at ≡ site) × Brought (change_call asked (next_id_at world at)) item
Brings world (merged at other) site item = (at ≡ site) × HasItem (content_at world other) item
Brings world (sent at part) site item = ⊥
Brings world (delivered at number) site item = (at ≡ site) × HasItem (packet_at world number) item

-- one of the steps that are accepted brings the item to the site
abbrev pub TookAt : World → List Step → ℕ → Item → Type 0
TookAt world [] site item = ⊥
TookAt world (step ∷ steps) site item = (IsAccepted world step × Brings world step site item) ⊎ TookAt (stepped world step) steps site item

-- two sites, of one world or of two, took the same additions and withdrawals; an amendment is the addition of its record and the withdrawal
-- of the id that it replaces
abbrev pub TookSameAt : World → List Step → ℕ → World → List Step → ℕ → Type 0
TookSameAt world ours site other theirs there = CountAlike (TookAt world ours site) (TookAt other theirs there)

-- they took the same items
abbrev pub TookSameItemsAt : World → List Step → ℕ → World → List Step → ℕ → Type 0
TookSameItemsAt world ours site other theirs there = (item : Item) → TookAt world ours site item ↔ TookAt other theirs there item

-- what a merge can be refused for: a site is not there, the site would know too many ids, or lack of memory
abbrev pub IsMergeFailure : Failure → Type 0
IsMergeFailure failure = (failure ≡ refused code.NoSite) ⊎ (failure ≡ refused code.Full) ⊎ (failure ≡ out_of_memory)

-- what a delivery can be refused for: the site or the packet is not there, the site would know too many ids, or lack of memory
abbrev pub IsDeliveryFailure : Failure → Type 0
IsDeliveryFailure failure = (failure ≡ refused code.NoPacket) ⊎ IsMergeFailure failure
