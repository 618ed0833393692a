-- A heading is read, with the source of a plan that is sound, or its cause is a refusal.
use Rattle.std.proofs.Common.{rules, ◌≡◌, ℕ, List, Option, Result, Ok, Err, IfErr, refl, arith}
use Rattle.stn_refusal.specs.declared.failure.Failure.{Failure}
use Rattle.stn_lift.{specs.{declared.fault.BaseFault.BaseFault, PlanSource.{PlanSource, base_of, IsSoundSource}}, proofs.SoundSource.base_sound}
use Rattle.stn_laws.proofs.scripts.{Causes.HasRefusal, Texts.{OfBase, base_fits}}
use Rattle.stn_command.specs.Words.{and_then}
use Rattle.stn_exec.specs.{Blocks.Block, Script.{Found, Based, Start, or_line, refusing_fault, with_base, bare_part, named_block, files_part, based, with_sites, heading_of}}

-- what is read has the property, or the failure is a refusal
abbrev pub IsFitOrRefused : {X : Type 0} → (X → Type 0) → Result X Failure → Type 0
IsFitOrRefused Fits (Ok value) = Fits value
IsFitOrRefused Fits (Err failure) = HasRefusal failure

then_fit : {X Y : Type 0} (Fits : X → Type 0) (Suits : Y → Type 0) (first : Result X Failure) (rest : X → Result Y Failure) → IsFitOrRefused Fits first
    → ((value : X) → Fits value → IsFitOrRefused Suits (rest value)) → IsFitOrRefused Suits (and_then first rest)
then_fit Fits Suits first rest one others = search rules

-- any value does
abbrev Any : {X : Type 0} → X → Type 0
Any value = Unit {0}

abbrev IsSoundBase : Based → Type 0
IsSoundBase base = IsSoundSource base.source

abbrev pub IsSoundStart : Start → Type 0
IsSoundStart start = IsSoundSource start.source

line_fits : {X : Type 0} (number : ℕ) (found : Option X) → IsFitOrRefused Any (or_line number found)
line_fits number found = grind (arith)

named_fits : (last : ℕ) (name : List ℕ) (found : Found) → IsFitOrRefused Any (named_block last name found)
named_fits last name found = grind (arith)

base_made : (source : PlanSource) (number : ℕ) (lines : List (List ℕ)) → IsFitOrRefused IsSoundBase (with_base source number lines)
base_made source number lines = by (base_of source) refl (base_fits source)
  where
    by : (made : Result PlanSource BaseFault) → base_of source ≡ made → IfErr made OfBase
        → IsFitOrRefused IsSoundBase (and_then (refusing_fault made) (λ one. Ok (record { source = one; number = number; lines = lines })))
    by (Ok made) is one = base_sound source made is
    by (Err fault) is one = one

bare_fits : (found : Found) → IsFitOrRefused IsSoundBase (bare_part found)
bare_fits found = search (then_fit {X = ℕ} Any IsSoundBase, line_fits, base_made)

files_fit : (last : ℕ) (found : Found) → IsFitOrRefused IsSoundBase (files_part last found)
files_fit last found = search (then_fit {X = Block} Any IsSoundBase, then_fit {X = Found} Any IsSoundBase, line_fits, named_fits, base_made)

based_fits : (last : ℕ) (lines : List (List ℕ)) → IsFitOrRefused IsSoundBase (based last lines)
unfolding based
based_fits last lines = grind (arith, files_fit, bare_fits)

-- the heading of any lines
pub heading_fits : (last : ℕ) (lines : List (List ℕ)) → IsFitOrRefused IsSoundStart (heading_of last lines)
unfolding with_sites
heading_fits last lines = grind (arith, based_fits)
