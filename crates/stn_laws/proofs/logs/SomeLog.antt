-- Bytes that are cut into frames and a rest have a meaning as a log.
use Rattle.std.{proofs.Common.{rules, ℕ, Bool, true, false, List, [], ◌∷◌, Option, Some, None, Result, Ok, Err, inl, inr, refl, arith}}
use Rattle.stn_wire.specs.Frame.{FrameContent}
use Rattle.stn_laws.proofs.frames.{Fronts.ShowsNone, Cuts.IsCut}
use Rattle.stn_store.specs.{Log.{Log, LogSoFar, all_taken, IsEnding, IsLogAnswer, IsRest}, declared.log.fault.LoadFault.{LoadFault, TheVariants.{Bound, Frame, LogForm}}}

-- what is answered where all frames were taken
ending : (more : Bool) (log : Option LogSoFar) (rest : List ℕ) → ShowsNone rest → (meaning : Result Log LoadFault) × IsEnding more rest log meaning
ending more log rest (inr (fault, is)) = (Err (Frame fault), is)
ending true log rest (inl is) = (Err Bound, (refl, is))
ending false None rest (inl is) = (Err LogForm, (refl, is, inl refl))
ending false (Some begun) [] (inl is) = (Ok begun.log, (refl, refl, refl))
ending false (Some begun) (byte ∷ rest) (inl is) = (Err LogForm, (refl, is, inr (omega arith)))

answered : (more : Bool) (rest : List ℕ) → ShowsNone rest → (taken : Result (Option LogSoFar) LoadFault) → (meaning : Result Log LoadFault) × IsLogAnswer more rest taken meaning
answered more rest shows (Ok log) = ending more log rest shows
answered more rest shows (Err fault) = (Err fault, refl)

pub meaning_of_cut : (more : Bool) (bytes : List ℕ) (frames : List FrameContent) (rest : List ℕ) → IsCut bytes frames rest
    → (meaning : Result Log LoadFault) × IsRest more None bytes meaning
meaning_of_cut more bytes frames rest cut =
    let some = answered more rest cut.shows (all_taken None frames) in
    search rules
