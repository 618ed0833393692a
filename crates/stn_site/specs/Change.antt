-- What a change does to what a site holds, and why it is refused.
use Rattle.std.specs.{Prelude.{◌≡◌, true, Option, Some, None}, FinMap.contains_key}
use Rattle.stn_records.specs.{Id.SiteCounter, Content.Content}
use Rattle.stn_site.specs.{Calls.{Accepted, added, amended, withdrew}, Held.{Held, plain, executed}, Refusals.{add_refusal, amend_refusal, done_refusal, withdraw_refusal}, declared.{faults.ReplicaFault.ReplicaFault, change.Change.{Change, TheVariants.{Add, Amend, Withdraw, Done}}}}

-- the call that a change is, where this is the id of the record that it adds
abbrev pub change_call : Change → SiteCounter → Accepted
change_call (Add bound) id = added id (plain bound)
change_call (Amend old bound) id = amended id old bound
change_call (Withdraw old) id = withdrew old
change_call (Done event time) id = added id (executed time event)

-- the id of the record that it adds, at a site whose next record has this id, or the id that it withdraws
abbrev pub change_id : Change → SiteCounter → SiteCounter
change_id (Add bound) next = next
change_id (Amend old bound) next = next
change_id (Withdraw old) next = old
change_id (Done event time) next = next

-- the id of the record whose place it takes, or that it withdraws
abbrev pub stopped : Change → Option SiteCounter
stopped (Add bound) = None
stopped (Amend old bound) = Some old
stopped (Withdraw id) = Some id
stopped (Done event time) = None

-- what refuses it, if something does
abbrev pub change_refusal : Held → Change → Option ReplicaFault
change_refusal held (Add bound) = add_refusal held bound
change_refusal held (Amend old bound) = amend_refusal held old bound
change_refusal held (Withdraw id) = withdraw_refusal held id
change_refusal held (Done event time) = done_refusal held event

-- it withdraws an id that is withdrawn already, which changes nothing
abbrev pub IsAgain : Change → Content → Type 0
IsAgain (Add bound) state = ⊥
IsAgain (Amend old bound) state = ⊥
IsAgain (Withdraw id) state = contains_key state.tombstones id ≡ true
IsAgain (Done event time) state = ⊥
