-- A deadline, and how time passes at a stream: in nanoseconds of the stream's clock, where that is known.
use Rattle.std.specs.{Prelude.{◌≡◌, ◌⊎◌, ℕ, ◌+◌, ◌<◌, ◌≤◌, min, Option, Some, None, Result, IsErr, ⊤}, Duration.{as_nanos, max_nanos}}
use Rattle.stn_device.specs.declared.deadline.{Deadline.Deadline, UntilDeadline.UntilDeadline}

-- the moment from which it counts
abbrev pub deadline_start : Deadline → ℕ
deadline_start deadline = as_nanos deadline.from

-- how long after that its time is over
abbrev pub limit_of : Deadline → ℕ
limit_of deadline = as_nanos deadline.limit

-- the moment at which the time is over: no clock shows a later one than the last
abbrev pub deadline_end : Deadline → ℕ
deadline_end deadline = min (deadline_start deadline + limit_of deadline) max_nanos

-- the stream whose calls have a deadline
abbrev pub timed_stream : {S : Type 0} → UntilDeadline S → S
timed_stream until = until.stream

-- and that deadline
abbrev pub deadline_of : {S : Type 0} → UntilDeadline S → Deadline
deadline_of until = until.deadline

-- a clock that is known shows this time
abbrev pub ShowsTime : Option ℕ → ℕ → Type 0
ShowsTime None now = ⊤
ShowsTime (Some time) now = now ≡ time

-- so much time is left until the end, and some is; of a clock that is not known this says only that
abbrev pub IsTimeLeft : ℕ → Option ℕ → ℕ → Type 0
IsTimeLeft end None left = 0 < left
IsTimeLeft end (Some time) left = (0 < left) × (time + left ≡ end)

-- no more time passed than the limit
abbrev pub PassesAtMost : Option ℕ → Option ℕ → ℕ → Type 0
PassesAtMost None new limit = ⊤
PassesAtMost (Some old) None limit = ⊥
PassesAtMost (Some old) (Some new) limit = (old ≤ new) × (new ≤ old + limit)

-- a call that began before the deadline is over by then, and may have failed; from the deadline on each call fails, and takes no time
abbrev pub KeepsDeadline : {T E : Type 0} → ℕ → Option ℕ → Option ℕ → Result T E → Type 0
KeepsDeadline end None new answer = ⊤
KeepsDeadline end (Some old) None answer = ⊥
KeepsDeadline end (Some old) (Some new) answer =
    ((old < end) × (old ≤ new) × (new ≤ end)) ⊎ ((end ≤ old) × (new ≡ old) × IsErr answer)
