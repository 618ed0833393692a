-- What refuses a call that sends, and what it leaves.
use Rattle.std.{proofs.{Common.{rules, ◌≡◌, ◌≢◌, ◌↔◌, ℕ, ◌<◌, ◌≤◌, Bool, true, false, List, None, Result, Ok, Err, length}, lemmas.{Bool.false≢true, Result.err_from_is_err_and}}, specs.{Prelude.{unwrap_or, MatchResult}, Result.IsErrAnd}}
use Rattle.stn_refusal.specs.{declared.{code.Code.TheVariants.{Unknown, TooManyPackets}, failure.Failure.Failure}, Refusals.{refused, out_of_memory}}
use Rattle.stn_records.specs.{Id.SiteCounter, Content.{Content, AllHeld, part_of}, declared.faults.PartFault.PartFault}
use Rattle.stn_records.specs.declared.faults.PartFault.TheVariants as part_fault
use Rattle.stn_world.{specs.{Faults.part_failure, Parts.holds_all, World.{World, most_packets, HasSite, content_at}, Steps.{sent, IsAccepted, send_refusal}, Whole.IsCoherent}, proofs.{Accepted.sending_free, Parts.{part_sent, holds_all-decides}}}

-- a part that could not be made
abbrev failed : (A : Type 0) → PartFault → Result A PartFault
failed A fault = Err fault

-- a part that is passed on was made
pub part_made : {A : Type 0} {part : Result A PartFault} {given : Result A Failure} {one : A} → MatchResult part (λ x. given ≡ Ok x) (λ fault. IsErrAnd given (λ made. made ≡ part_failure fault))
    → given ≡ Ok one → part ≡ Ok one
part_made cases was = search rules

pub send_full : {world : World} {site : ℕ} (held : Bool) {failure : Failure} → HasSite world site → failure ≡ refused TooManyPackets → most_packets ≤ length world.packets
    → failure ≡ unwrap_or (send_refusal world site held) out_of_memory
send_full held there is full = search rules

module _ (world : World) (site : ℕ) (there : HasSite world site) (room : length world.packets < most_packets) where
  -- nothing stands against a site that sends what it holds
  pub send_free : {held : Bool} → held ≡ true → send_refusal world site held ≡ None
  send_free e = search rules

  -- so only memory can be wanted
  pub send_memory : {held : Bool} → held ≡ true → out_of_memory ≡ unwrap_or (send_refusal world site held) out_of_memory
  send_memory {held} e = cc (send_free e)

  send_unheld : {held : Bool} → held ≡ false → refused Unknown ≡ unwrap_or (send_refusal world site held) out_of_memory
  send_unheld e = search rules

  part_fault_of : (theirs : Content) (records tombstones : List SiteCounter) (A : Type 0) {fault : PartFault}
      → ((failed A fault ≡ Err part_fault.Unknown) ↔ ¬ (AllHeld theirs.additions records × AllHeld theirs.tombstones tombstones))
      → part_failure fault ≡ unwrap_or (send_refusal world site (holds_all theirs records tombstones)) out_of_memory
  part_fault_of theirs records tombstones A is = search (rules, send_unheld, holds_all-decides, send_memory, false≢true)

  -- a part is refused where not all is held, or for lack of memory
  pub part_refused : {theirs : Content} (records tombstones : List SiteCounter) (A : Type 0) (part : Result A PartFault) {failure : Failure} → theirs ≡ content_at world site
      → ((part ≡ Err part_fault.Unknown) ↔ ¬ (AllHeld theirs.additions records × AllHeld theirs.tombstones tombstones))
      → {given : Result A Failure} → MatchResult part (λ x. given ≡ Ok x) (λ fault. IsErrAnd given (λ made. made ≡ part_failure fault)) → given ≡ Err failure
      → failure ≡ unwrap_or (send_refusal world site (holds_all (content_at world site) records tombstones)) out_of_memory
  part_refused records tombstones A (Ok x) same is cases was = cc
  part_refused {theirs} records tombstones A (Err fault) same is {given} cases was =
      let p = err_from_is_err_and given cases in
      let made = part_fault_of theirs records tombstones A is in
      cc

-- the test of what is held, where it is
pub holds_there : (theirs content : Content) (records tombstones : List SiteCounter) → theirs ≡ content → AllHeld theirs.additions records × AllHeld theirs.tombstones tombstones
    → holds_all content records tombstones ≡ true
holds_there theirs content records tombstones same held = search (rules, holds_all-decides)

-- in a coherent world a site may send a part of what it holds, and all of it
pub part_free : (world : World) (site : ℕ) (records tombstones : List SiteCounter) → HasSite world site → IsCoherent world
    → IsAccepted world (sent site (part_of (content_at world site) records tombstones))
part_free world site records tombstones there coherent = sending_free there (part_sent records tombstones (coherent.1.sites_amend site))

pub all_free : (world : World) (site : ℕ) → HasSite world site → IsCoherent world → IsAccepted world (sent site (content_at world site))
all_free world site there coherent = search (rules, sending_free)
