-- Bytes have one meaning as a log.
use Rattle.std.{proofs.{Common.{rules, ◌≡◌, ℕ, Bool, List, [], ◌∷◌, ◌++◌, length, Option, Some, Result, Ok, Err, sym, subst, append_assoc}}, specs.{List.{flat_map, AllByRecursion}}}
use Rattle.stn_wire.specs.{Frame.{FrameContent, spelling, IsFrame}, Front.{Front, whole, faulty, unfinished, IsFront}, declared.fault.WireFault.WireFault}
use Rattle.stn_laws.proofs.frames.Fronts.{one_front_lem, one_spelling_lem, whole_spelled}
use Rattle.stn_store.specs.{Log.{Log, LogSoFar, taken, all_taken, all_taken_by, IsEnding, IsLogAnswer, IsRest}, declared.log.fault.LoadFault.{LoadFault, TheVariants.{Bound, Frame, LogForm}}}

apart : (fault : WireFault) → faulty fault ≡ unfinished → ⊥
apart fault e = absurd cc

one_fault : (f g : WireFault) → faulty f ≡ faulty g → f ≡ g
one_fault f g e = cc

nothing : (bytes : List ℕ) → bytes ≡ [] → IsFront bytes unfinished
nothing bytes e = search rules

-- an ending is after all whole frames
no_frame : (more : Bool) (log : Option LogSoFar) (frame : FrameContent) (tail : List ℕ) (meaning : Result Log LoadFault) → IsFrame frame → IsEnding more (spelling frame ++ tail) log meaning → ⊥
no_frame more log frame tail meaning h e = by meaning e
  where
    front : (other : Front) → IsFront (spelling frame ++ tail) other → whole frame (length (spelling frame)) ≡ other
    front other is = one_front_lem (spelling frame ++ tail) (whole frame (length (spelling frame))) other (whole_spelled frame tail h) is

    by : (meaning : Result Log LoadFault) → IsEnding more (spelling frame ++ tail) log meaning → ⊥
    by (Ok log') e = let bad = front unfinished (nothing (spelling frame ++ tail) e.1) in cc
    by (Err (Frame fault)) e = let bad = front (faulty fault) e in cc
    by (Err LogForm) e = let bad = front unfinished e.1 in cc
    by (Err Bound) e = let bad = front unfinished e.1 in cc
    by (Err other) e = e

one_ending : (more : Bool) (log : Option LogSoFar) (behind : List ℕ) (a b : Result Log LoadFault) → IsEnding more behind log a → IsEnding more behind log b → a ≡ b
one_ending more log behind a b p q = search rules

by_first : (more : Bool) (fs gs : List FrameContent) (behind left : List ℕ) (a b : Result Log LoadFault) (first : Result LogSoFar LoadFault)
    → ((next : LogSoFar) → IsLogAnswer more behind (all_taken (Some next) fs) a → IsLogAnswer more left (all_taken (Some next) gs) b → a ≡ b)
    → IsLogAnswer more behind (all_taken_by (λ log. all_taken log fs) first) a → IsLogAnswer more left (all_taken_by (λ log. all_taken log gs) first) b → a ≡ b
by_first more fs gs behind left a b first later x y = search rules

one_rest : (more : Bool) (fs gs : List FrameContent) (log : Option LogSoFar) (behind left : List ℕ) (a b : Result Log LoadFault) → AllByRecursion IsFrame fs → AllByRecursion IsFrame gs
    → flat_map spelling fs ++ behind ≡ flat_map spelling gs ++ left → IsLogAnswer more behind (all_taken log fs) a → IsLogAnswer more left (all_taken log gs) b → a ≡ b
one_rest more [] [] log behind left a b p q e x y = search rules
one_rest more [] (g ∷ gs) log behind left a b p q e x y = search (rules, no_frame, append_assoc)
one_rest more (f ∷ fs) [] log behind left a b p q e x y = search (rules, no_frame, append_assoc)
one_rest more (f ∷ fs) (g ∷ gs) log behind left a b p q e x y =
    let cut : spelling f ++ (flat_map spelling fs ++ behind) ≡ spelling g ++ (flat_map spelling gs ++ left) = search (rules, append_assoc) in
    let parts = one_spelling_lem f g (flat_map spelling fs ++ behind) (flat_map spelling gs ++ left) p.0 q.0 cut in
    by_first more fs gs behind left a b (taken log f) (λ next. one_rest more fs gs (Some next) behind left a b p.1 q.1 parts.1) x
    (subst (λ (h : FrameContent). IsLogAnswer more left (all_taken_by (λ log. all_taken log gs) (taken log h)) b) (sym parts.0) y)

pub one_meaning : (more : Bool) (log : Option LogSoFar) (bytes : List ℕ) (a b : Result Log LoadFault) → IsRest more log bytes a → IsRest more log bytes b → a ≡ b
one_meaning more log bytes a b x y = search (rules, one_rest)
