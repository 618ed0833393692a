-- For proofs alone: no public clause cites these words.
-- Why a part of the work fails.
use Rattle.std.specs.Prelude.{◌≡◌, ◌⊎◌}
use Rattle.stn_refusal.specs.{declared.{code.Code.Code, failure.Failure.Failure}, Refusals.{refused, out_of_memory}}

-- the failure is the refusal by this code, and there is this cause for it; or it is lack of memory, which may always come
abbrev pub IsRefusedFor : Code → Type 0 → Failure → Type 0
IsRefusedFor code Cause failure = (Cause × (failure ≡ refused code)) ⊎ (failure ≡ out_of_memory)
