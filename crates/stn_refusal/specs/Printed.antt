-- What is printed for a refusal or a fault.
use Rattle.std.specs.Prelude.{ℕ, List, [], ◌∷◌, ◌++◌, codes, decimal}
use Rattle.stn_text.specs.Names.{event_text, id_text}
use Rattle.stn_refusal.specs.declared.{refusal.{Place.{Place, TheVariants.{Nowhere, Number, Event, Id}}, Refusal.Refusal}, failure.Fault.Fault}
use Rattle.stn_refusal.specs.declared.failure.Fault.TheVariants as fault

-- what stands after the number of a refusal
abbrev pub place_text : Place → List ℕ
place_text Nowhere = []
place_text (Number number) = codes " " ++ decimal number
place_text (Event event) = codes " " ++ event_text event
place_text (Id site counter) = codes " " ++ id_text (record { site = site; counter = counter })

-- the line that is printed for a refusal
abbrev pub refusal_text : Refusal → List ℕ
refusal_text refusal = codes "refused " ++ (decimal refusal.code ++ (place_text refusal.place ++ 10 ∷ []))

-- the line that is printed for a fault
abbrev pub fault_text : Fault → List ℕ
fault_text fault.Read = codes "fault read" ++ 10 ∷ []
fault_text fault.Write = codes "fault write" ++ 10 ∷ []
fault_text fault.Bound = codes "fault bound" ++ 10 ∷ []
fault_text fault.Memory = codes "fault memory" ++ 10 ∷ []
fault_text fault.File = codes "fault file" ++ 10 ∷ []
fault_text fault.Net = codes "fault net" ++ 10 ∷ []
