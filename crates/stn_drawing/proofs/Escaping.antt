-- What a text is shown as.
use Rattle.std.{proofs.Common.{rules, ◌≡◌, ℕ, Bool, true, ◌==◌, List, [], ◌∷◌, ◌++◌, codes, if◌then◌else◌, refl}, specs.List.list_all}
use Rattle.stn_drawing.specs.Escape.{is_printed, shown, is_plain, are_named}

module _ (byte : ℕ) (rest : List ℕ) (plain : list_all is_plain rest ≡ true) (named : are_named rest ≡ true) where
  -- by what the byte is
  shown_byte : {is_and is_less is_more is_quote is_shown : Bool} → (byte == 38) ≡ is_and → (byte == 60) ≡ is_less → (byte == 62) ≡ is_more → (byte == 34) ≡ is_quote → is_printed byte ≡ is_shown
      → let text = if is_and then codes "&amp;" else (if is_less then codes "&lt;" else (if is_more then codes "&gt;" else (if is_quote then codes "&quot;" else (if is_shown then byte ∷ [] else codes "?")))) in
      (list_all is_plain (text ++ rest) ≡ true) × (are_named (text ++ rest) ≡ true)
  shown_byte a b c d e = search rules

pub shown_text : (text : List ℕ) → (list_all is_plain (shown text) ≡ true) × (are_named (shown text) ≡ true)
shown_text [] = (refl, refl)
shown_text (byte ∷ text) =
    let rest = shown_text text in
    shown_byte byte (shown text) rest.0 rest.1 refl refl refl refl refl
