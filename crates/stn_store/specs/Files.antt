-- How files fail.
use Rattle.std.specs.{Prelude.{◌≡◌, List, ℕ, Option, IfSome, ⊤}, String.string_bytes}
use Rattle.stn_cause.specs.declared.cause.Cause.{Cause}
use Rattle.stn_store.specs.declared.trouble.Trouble.{Trouble}
use Rattle.stn_refusal.specs.declared.failure.Fault.{Fault, TheVariants.{Read, Write, Bound, Memory, File, Net}}

-- a file can't be opened, made or renamed, or it can't be read or written, or it is longer than its limit
abbrev pub IsFileFault : Fault → Type 0
IsFileFault Read = ⊤
IsFileFault Write = ⊤
IsFileFault Bound = ⊤
IsFileFault File = ⊤
IsFileFault Memory = ⊥
IsFileFault Net = ⊥

-- what can't be used is what has this name, for this cause; or there was no memory to say so
abbrev pub Blames : Option Trouble → List ℕ → Cause → Type 0
Blames trouble name cause = IfSome trouble (λ told. (string_bytes told.name ≡ name) × (told.cause ≡ cause))
