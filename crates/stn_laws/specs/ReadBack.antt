-- What an addition reads of a printed bound.
use Rattle.std.specs.Prelude.{◌≡◌, ℕ, ◌<◌, ◌^◌, List, [], ◌∷◌, Some, Ok}
use Rattle.stn_text.specs.Lines.{words_of}
use Rattle.stn_time.specs.Time.{IsWithinHorizon}
use Rattle.stn_net.specs.{Difference.{Difference, NamesEvents}, Event.most_events}
use Rattle.stn_records.specs.Id.{IsId}
use Rattle.stn_site.specs.declared.names.BoundName.{BoundName, TheVariants.{Plan, Record}}
use Rattle.stn_exec.specs.Command.{bound_asked}

-- the events and the times of the bound are some that can be printed and read
pub record IsReadable (bound : Difference) : Type 0 where
  pub events : NamesEvents most_events bound
  pub lo : IsWithinHorizon bound.lo
  pub hi : IsWithinHorizon bound.hi

-- the name is that of a bound of some plan, or of a record
abbrev pub IsName : BoundName → Type 0
IsName (Plan number) = number < 2 ^ 32
IsName (Record id) = IsId id

-- the text has five words or more; `add` reads the second to the fifth as the bound
pub record ReadsBack (text : List ℕ) (bound : Difference) : Type 0 where
  pub name : List ℕ
  pub from : List ℕ
  pub to : List ℕ
  pub lo : List ℕ
  pub hi : List ℕ
  pub rest : List (List ℕ)
  pub words : words_of text ≡ name ∷ (from ∷ (to ∷ (lo ∷ (hi ∷ rest))))
  pub read : bound_asked (from ∷ (to ∷ (lo ∷ (hi ∷ [])))) ≡ Some (Ok (record { from = bound.from; to = bound.to; lo = bound.lo; hi = bound.hi }))
