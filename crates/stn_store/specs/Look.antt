-- How bytes are known again without being read.
use Rattle.std.specs.Prelude.{◌≡◌, ℕ, ℤ, pos, ◌+ℤ◌, ◌<ℤ◌, List, ⊤}
use Rattle.stn_store.specs.declared.look.{Look.{Look, TheVariants.{File, Bytes}}, FileState.FileState}

-- these bytes were seen; of a file, no clause says which bytes it has
abbrev pub Saw : {A : Type 0} → Look A → List ℕ → Type 0
Saw (File seen) bytes = ⊤
Saw (Bytes seen) bytes = seen.items ≡ bytes

-- the same file of the same device, as long
abbrev pub IsSameFile : FileState → FileState → Type 0
IsSameFile one other = (one.device ≡ other.device) × (one.number ≡ other.number) × (one.length ≡ other.length)

-- written and changed at the same moments
abbrev pub HasSameTimes : FileState → FileState → Type 0
HasSameTimes one other =
    ((one.written ≡ other.written) × (one.written_nanos ≡ other.written_nanos))
    × ((one.changed ≡ other.changed) × (one.changed_nanos ≡ other.changed_nanos))

-- the times of a file lie so many seconds before a moment that a change after that gives it others
abbrev pub clock_step : ℤ
clock_step = pos 2

abbrev pub ShowsChanges : FileState → ℤ → Type 0
ShowsChanges state moment = ((state.written +ℤ clock_step) <ℤ moment) × ((state.changed +ℤ clock_step) <ℤ moment)
