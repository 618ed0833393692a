-- Texts that grow by a line.
use Rattle.std.proofs.{Common.{rules, ◌≡◌, ℕ, ℤ, ◌+◌, List, [], ◌∷◌, ◌++◌, length, map, take, get_or, ◌<◌, refl, sym, ap, ◌∙◌, arith, append_assoc}, lemmas.List.{length-map, length-take, get_or_read, map_more}}
use Rattle.stn_net.specs.Difference.{Difference}
use Rattle.stn_lift.specs.Plan.Steps.{PlannedStep}
use Rattle.stn_site.specs.Lines.{line}
use Rattle.stn_questions.specs.{Durations.least_of, Steps.{step_name_text, name_lines, step_line, step_lines}}

-- a line of five parts, of which the last two come at once
pub line_in_parts : (front first second third fourth fifth t1 t2 t3 : List ℕ) → t1 ≡ front ++ (first ++ second) → t2 ≡ t1 ++ third → t3 ≡ t2 ++ (fourth ++ (fifth ++ 10 ∷ []))
    → t3 ≡ front ++ line (first ++ second ++ third ++ fourth ++ fifth)
line_in_parts front first second third fourth fifth t1 t2 t3 a b c = search (rules, append_assoc)

-- the lines of one step more
pub step_lines-push : (duration : ℕ → ℤ) (before place : ℕ) (steps : List PlannedStep) (step : PlannedStep) → before + length steps ≡ place
    → step_lines duration before (steps ++ step ∷ []) ≡ step_lines duration before steps ++ step_line (place + 1) step (duration place)
step_lines-push duration before place [] step e = search rules
step_lines-push duration before place (first ∷ steps) step e =
    cc (step_lines-push duration (before + 1) place steps step (omega (arith, e)), append_assoc (step_line (before + 1) first (duration before)) (step_lines duration (before + 1) steps) (step_line (place + 1) step (duration place)))

-- steps that last as long have the same lines
pub step_lines-same : (one other : ℕ → ℤ) (before : ℕ) (steps : List PlannedStep) → ((place : ℕ) → place < before + length steps → one place ≡ other place)
    → step_lines one before steps ≡ step_lines other before steps
step_lines-same one other before [] same = refl
step_lines-same one other before (step ∷ steps) same =
    cc (same before (omega arith), step_lines-same one other (before + 1) steps (λ place within. same place (omega arith)))

-- the names of one step more
name_lines-push : (before place : ℕ) (steps : List PlannedStep) (step : PlannedStep) → before + length steps ≡ place
    → name_lines before (steps ++ step ∷ []) ≡ name_lines before steps ++ line (step_name_text (place + 1) step)
name_lines-push before place [] step e = search rules
name_lines-push before place (first ∷ steps) step e =
    cc (name_lines-push (before + 1) place steps step (omega (arith, e)), append_assoc (line (step_name_text (before + 1) first)) (name_lines (before + 1) steps) (line (step_name_text (place + 1) step)))

pub names_grown : {X : Type 0} (view : X → PlannedStep) (xs : List X) (place : ℕ) (x : X) (front old new : List ℕ) → place < length xs → x ≡ get_or xs place x
    → old ≡ front ++ name_lines 0 (map view (take place xs)) → new ≡ old ++ line (step_name_text (place + 1) (view x))
    → new ≡ front ++ name_lines 0 (map view (take (place + 1) xs))
names_grown view xs place x front old new within is was grown = search (rules, map_more, append_assoc, name_lines-push, length-map)

-- the lines of one step more, read from two lists
pub steps_grown : {X : Type 0} (view : X → PlannedStep) (xs : List X) (durations : List Difference) (place : ℕ) (x : X) (bound : Difference) (duration : ℤ) (front old new : List ℕ)
    → place < length xs → x ≡ get_or xs place x → place < length durations → bound ≡ get_or durations place bound → duration ≡ bound.lo
    → old ≡ front ++ step_lines (least_of durations) 0 (map view (take place xs)) → new ≡ old ++ step_line (place + 1) (view x) duration
    → new ≡ front ++ step_lines (least_of durations) 0 (map view (take (place + 1) xs))
steps_grown view xs durations place x bound duration front old new within is there at lasts was grown =
    let seen = map view (take place xs) in
    let f = least_of durations in
    let more : map view (take (place + 1) xs) ≡ seen ++ view x ∷ [] = cc (map_more view xs place x within)
    in
    let count : 0 + length seen ≡ place = search (rules, length-map, length-take) in
    let read : duration ≡ f place = cc (get_or_read durations place bound there at _) in
    grown
    ∙ (λ i. was i ++ step_line (place + 1) (view x) (read i))
    ∙ append_assoc front (step_lines f 0 seen) (step_line (place + 1) (view x) (f place))
    ∙ ap (λ text. front ++ text) (sym (step_lines-push f 0 place seen (view x) count))
    ∙ ap (λ steps. front ++ step_lines f 0 steps) (sym more)
