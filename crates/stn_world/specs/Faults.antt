-- Why there is no world, and why a part is not sent.
use Rattle.std.specs.Prelude.{◌≡◌, ◌⊎◌, ℕ}
use Rattle.stn_refusal.specs.{declared.{code.Code.TheVariants.NoSite, failure.Failure.Failure}, Refusals.{refused, out_of_memory}}
use Rattle.stn_refusal.specs.declared.code.Code.TheVariants as code
use Rattle.stn_records.specs.{Id.IsSite, declared.faults.PartFault.{PartFault, TheVariants.{Unknown, Memory}}}

-- the failure is the first that stands against a world of so many sites
abbrev pub IsOpeningFailure : ℕ → Failure → Type 0
IsOpeningFailure sites failure = (¬ IsSite sites × (failure ≡ refused NoSite)) ⊎ (IsSite sites × (failure ≡ out_of_memory))

-- what is asked for and is not held is an unknown record
abbrev pub part_failure : PartFault → Failure
part_failure Unknown = refused code.Unknown
part_failure Memory = out_of_memory
