use Rattle.std.{proofs.{Common.{◌≡◌, ℕ, List, [], ◌∷◌, ◌++◌, Result, OnOk, append_assoc, arith}, lemmas.Grind.common_steps}, specs.Prelude.{if◌then◌else◌, is_ok}}
use Rattle.stn_reasons.proofs.telling.append_form.Goals as goal

-- a text between brackets
around : {T E : Type 0} (result : Result T E) (old begun text first second new : List ℕ) → first ≡ old ++ begun → second ≡ first ++ text
    → new ≡ (if is_ok result then second ++ 41 ∷ [] else second) → OnOk result (new ≡ old ++ (begun ++ (text ++ 41 ∷ [])))
around result old begun text first second new h3 h4 h5 = grind (arith, common_steps, append_assoc)

pub returns-in_ok-append_events-in-Event : goal.returns-in_ok-append_events-in-Event
returns-in_ok-append_events-in-Event g c =
    rw c.in-Event.is
    (around c.extend_from_slice-in-Event.result _ _ _ _ _ _ c.in_ok-extend_from_slice-in-Event.ensures.items c.in_ok-append_events-in-Event.ensures c.extend_from_slice-in-Event.ensures.items)
