-- Refusals and failures, by their codes and what they name.
use Rattle.std.specs.Prelude.{ℕ, Option, Some, None}
use Rattle.stn_text.specs.Names.{SiteCounter}
use Rattle.stn_refusal.specs.{declared.{code.Code.Code, refusal.{Place.{Place, TheVariants.{Nowhere, Number, Event, Id}}, Refusal.Refusal}, failure.{Failure.{Failure, TheVariants.{Refused, Failed}}, Fault.TheVariants.Memory}}, Codes.number_of}

abbrev pub placed : Code → Place → Refusal
placed code place = record { code = number_of code; place = place }

-- a refusal by its number alone, as another site sends it
abbrev pub refusal_with : ℕ → Refusal
refusal_with number = record { code = number; place = Nowhere }

-- a refusal that names nothing
abbrev pub refusal : Code → Refusal
refusal code = placed code Nowhere

-- a refusal that names a line or a step
abbrev pub refusal_at : Code → ℕ → Refusal
refusal_at code number = placed code (Number number)

-- a refusal that names an event
abbrev pub refusal_of : Code → ℕ → Refusal
refusal_of code event = placed code (Event event)

-- a refusal that names an id
abbrev pub refusal_for : Code → SiteCounter → Refusal
refusal_for code id = placed code (Id id.site id.counter)

-- the same, as failures
abbrev pub refused : Code → Failure
refused code = Refused (refusal code)

abbrev pub refused_at : Code → ℕ → Failure
refused_at code number = Refused (refusal_at code number)

abbrev pub refused_of : Code → ℕ → Failure
refused_of code event = Refused (refusal_of code event)

abbrev pub refused_for : Code → SiteCounter → Failure
refused_for code id = Refused (refusal_for code id)

abbrev pub refused_with : ℕ → Failure
refused_with number = Refused (refusal_with number)

-- the number of a refusal; a fault of a device or of memory has none
abbrev pub code_of : Failure → Option ℕ
code_of (Refused refusal) = Some refusal.code
code_of (Failed fault) = None

-- memory ran out
abbrev pub out_of_memory : Failure
out_of_memory = Failed Memory
