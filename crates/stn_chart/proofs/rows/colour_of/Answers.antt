use Rattle.std.proofs.{Common.{rules, ◌≡◌, ◌<◌, ◌++◌, ℕ, List, [], ◌∷◌, slice_index_or, codes, decimal, Bor, refl, arith}, lemmas.Fmt.decimal_digit}
use Rattle.stn_chart.proofs.rows.colour_of.Goals as goal

-- the class at a place
class_at : (a b c d e f other : Bor (List ℕ)) {n : ℕ} → a.now ≡ codes "a o0" → b.now ≡ codes "a o1" → c.now ≡ codes "a o2" → d.now ≡ codes "a o3" → e.now ≡ codes "a o4"
    → f.now ≡ codes "a o5" → n < 6 → (slice_index_or (a ∷ b ∷ c ∷ d ∷ e ∷ f ∷ []) n other).now ≡ codes "a o" ++ decimal n
class_at a b c d e f other ia ib ic id ie jf within = search (rules, decimal_digit)

pub returns : goal.returns
returns c = rw c.from.ensures (class_at _ _ _ _ _ _ _ refl refl refl refl refl refl (omega arith))
