-- A site at the other end of a connection.
use Rattle.std.specs.Prelude.{◌≡◌, ℕ, Option, None}
use Rattle.stn_device.specs.{Callers.CallersState, Counted.counted_device, Deadline.{deadline_of, limit_of}, declared.{deadline.UntilDeadline.UntilDeadline, partner.Partner.Partner}}

-- it is read and written up to one deadline, so many nanoseconds after some moment
abbrev pub MayTake : {S : Type 0} → Partner (UntilDeadline S) (UntilDeadline S) → ℕ → Type 0
MayTake peer limit = (deadline_of (counted_device peer.writer) ≡ deadline_of (counted_device peer.reader))
    × (limit_of (deadline_of (counted_device peer.reader)) ≡ limit)

-- sites of which no clause knows who they are
abbrev pub strangers : Option CallersState
strangers = None
