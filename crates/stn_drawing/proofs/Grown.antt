-- Texts that grow piece by piece.
use Rattle.std.{proofs.Common.{rules, ◌≡◌, ℕ, List, ◌++◌, cond, Result, OnOk, append_assoc}, specs.{Prelude.{is_ok, MatchResult}, Result.{IsOk, IsErr}}}

-- one piece more
pub then : (front seen piece : List ℕ) {middle end : List ℕ} → middle ≡ front ++ seen → end ≡ middle ++ piece → end ≡ front ++ (seen ++ piece)
then front seen piece first second = cc (append_assoc front seen piece)

-- the last piece, which is appended whole or not at all
pub last : {T E : Type 0} (result : Result T E) (front seen piece text : List ℕ) {middle end : List ℕ} → middle ≡ front ++ seen
    → end ≡ cond (is_ok result) (middle ++ piece) middle → front ++ (seen ++ piece) ≡ front ++ text → OnOk result (end ≡ front ++ text)
last result front seen piece text first second same = search (rules, then)

-- what holds after a write that succeeded
pub on_ok : {T F : Type 0} (P : Type 0) (written : Result T F) → IsOk written → OnOk written P → P
on_ok P written was holds = search rules

-- one piece more, if it could be appended
pub further : {T E : Type 0} (result : Result T E) (front seen piece text end : List ℕ) {middle : List ℕ} → middle ≡ front ++ seen
    → OnOk result (end ≡ middle ++ piece) → front ++ (seen ++ piece) ≡ front ++ text → OnOk result (end ≡ front ++ text)
further result front seen piece text end first second same = search (rules, then)

-- a text that was written to memory, in one piece
pub written : {T E F : Type 0} (result : Result T E) (write : Result T F) (end text other : List ℕ) → MatchResult result (λ _. IsOk write) (λ _. IsErr write)
    → OnOk write (end ≡ text) → text ≡ other → OnOk result (end ≡ other)
written result write end text whole was holds same = search rules
