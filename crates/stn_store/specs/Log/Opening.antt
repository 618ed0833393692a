-- For proofs alone: no public clause cites these words.
-- A log that is being read, as the code has it.
use Rattle.std.specs.Prelude.{◌≡◌, Bool, true, false, Result, Err, IfSome, option_map}
use Rattle.stn_store.specs.{Log.{LogSoFar, log_held, so_far, told_by}, declared.log.{reading.Opened.Opened, fault.LoadFault.{LoadFault, TheVariants.{Read, Bound}}}}

-- what an opened log says
abbrev pub opened_so_far : {A : Type 0} → Opened A → LogSoFar
opened_so_far opened = so_far opened.version (log_held opened.plan)

-- a read failed, or the log is too long: no frame is refused so
abbrev pub is_cut_off : LoadFault → Bool
is_cut_off Read = true
is_cut_off Bound = true
is_cut_off fault = false

-- a frame is refused: where the fault is told, this is what the log comes to
abbrev pub IsRefused : Result LogSoFar LoadFault → LoadFault → Type 0
IsRefused log fault = (is_cut_off fault ≡ false) × IfSome (option_map Err (told_by fault)) (λ meaning. log ≡ meaning)
