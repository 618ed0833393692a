-- Which records are refused, one after another.
use Rattle.std.proofs.{Common.{rules, ◌≡◌, ℕ, ◌+◌, ◌<◌, ◌≤◌, List, [], ◌∷◌, ◌++◌, length, drop, get_or, refl, sym, subst, append_assoc}, Math.{Seq.drop-cons, ListN.drop_of_length-le}, lemmas.List.append-nil}
use Rattle.stn_net.specs.{Difference.Difference, Schedule.HasSchedule}
use Rattle.stn_records.specs.{Id.SiteCounter, declared.record.Record.Record}
use Rattle.stn_repairs.specs.Dropped.{AreRefused}

-- these bounds are kept among the first so many records, and these ids are refused among them: whatever is refused of the rest comes
-- after them
abbrev pub IsRefusedSoFar : List Difference → List (SiteCounter × Record) → ℕ → List SiteCounter → List Difference → Type 0
IsRefusedSoFar base order place refused kept = (later : List SiteCounter) → AreRefused kept (drop place order) later → AreRefused base order (refused ++ later)

-- at first all of the plan's
pub none_refused : (base : List Difference) (order : List (SiteCounter × Record)) → IsRefusedSoFar base order 0 [] (base ++ [])
none_refused base order = search rules

module _ (base : List Difference) (order : List (SiteCounter × Record)) (place : ℕ) (entry : SiteCounter × Record) (refused : List SiteCounter) (kept : List Difference)
    (there : place < length order) (is_at : entry ≡ get_or order place entry) (so_far : IsRefusedSoFar base order place refused kept) where
  left : drop place order ≡ entry ∷ drop (place + 1) order
  left = search (rules, drop-cons)

  -- one that is kept
  pub keeps_one : HasSchedule (kept ++ entry.1.bound ∷ []) → IsRefusedSoFar base order (place + 1) refused (kept ++ entry.1.bound ∷ [])
  keeps_one possible = search (rules, left)

  -- one that is refused
  pub refuses_one : ¬ HasSchedule (kept ++ entry.1.bound ∷ []) → IsRefusedSoFar base order (place + 1) (refused ++ entry.0 ∷ []) kept
  refuses_one impossible = search (rules, append_assoc, left)

-- and in the end
pub all_refused : (base : List Difference) (order : List (SiteCounter × Record)) (place : ℕ) (refused : List SiteCounter) (kept : List Difference) → length order ≤ place
    → IsRefusedSoFar base order place refused kept → AreRefused base order refused
all_refused base order place refused kept past so_far =
    subst (AreRefused base order) (append-nil refused)
    (so_far [] (subst (λ (rest : List (SiteCounter × Record)). AreRefused kept rest []) (sym (drop_of_length-le order past)) refl))
