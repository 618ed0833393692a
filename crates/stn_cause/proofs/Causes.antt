-- Two causes are told by different texts.
use Rattle.std.{proofs.Common.{ℕ, List, [], ◌∷◌, find, unwrap_or}, specs.Str.bytes_eq}
use Rattle.stn_cause.specs.{Cause.cause_text, declared.cause.Cause.Cause}
use Rattle.stn_cause.specs.declared.cause.Cause.TheVariants as cause

all_causes : List Cause
all_causes = cause.Missing ∷ cause.Forbidden ∷ cause.Folder ∷ cause.NotFile ∷ cause.BelowFile ∷ cause.LongName ∷ cause.Links ∷ cause.There ∷ cause.OtherName ∷ cause.NotEmpty ∷ cause.TooLong ∷ cause.ReadOnly ∷ cause.NoRoom ∷ cause.Changed ∷ cause.InUse ∷ cause.Elsewhere ∷ cause.NoAddress ∷ cause.Nobody ∷ cause.Unreachable ∷ cause.Late ∷ cause.Left ∷ cause.Unread ∷ cause.Unwritten ∷ cause.Refused ∷ []

-- the first cause that has this text
told_by : List ℕ → Cause
told_by text = unwrap_or (find (λ one. bytes_eq (cause_text one) text) all_causes) cause.Refused
