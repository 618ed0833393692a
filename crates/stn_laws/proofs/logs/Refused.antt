-- What a word refuses ends so.
use Rattle.std.{proofs.{Common.{rules, ◌≡◌, ◌⊎◌, ℕ, List, Some, Result}, lemmas.Option.{none-some}}, specs.Prelude.IsErrAnd}
use Rattle.stn_device.proofs.Known.{not_err}
use Rattle.stn_effects.specs.Effects.{Effect, Then}
use Rattle.stn_line.specs.declared.words.{NewLog.TheVariants.Loosen, Line.{Line, TheVariants.{Make, Change, Ask}}}
use Rattle.stn_refusal.specs.declared.failure.{Failure.Failure, Fault.Fault}
use Rattle.stn_store.specs.{Steps.Entries, Store.IsLack}
use Rattle.stn_asked.specs.{Words.{refused_by, word_refused}, declared.words.RefusedWord.RefusedWord}
use Rattle.stn_logs.specs.Commands.{Reads, DoesLine}

module _ (Fails : Fault → Type 0) (refused : RefusedWord) where
  abbrev IsRefused : Result (List ℕ) Failure → Type 0
  IsRefused ended = IsErrAnd ended (λ failure. (failure ≡ refused.failure) ⊎ IsLack Fails failure)

  -- what a word refuses ends so
  ends_so : (X : Type 0) (said : Result X RefusedWord) (Next : X → Effect Entries (List ℕ)) (old new : Entries) (ended : Result (List ℕ) Failure)
      → refused_by said ≡ Some refused → Then (Reads Fails said) Next old new ended → (new ≡ old) × IsRefused ended
  ends_so X said Next old new ended is does = search (rules, not_err)

  pub told : (line : Line) (old new : Entries) (ended : Result (List ℕ) Failure) → word_refused line ≡ Some refused → DoesLine Fails line old new ended
      → (new ≡ old) × IsRefused ended
  told (Make log (Loosen domain plan early late robust)) old new ended is does = ends_so _ _ _ old new ended is does
  told (Change log words) old new ended is does = ends_so _ _ _ old new ended is does
  told (Ask log words names) old new ended is does = ends_so _ _ _ old new ended is does
  told line old new ended is does = absurd (none-some refused is)
