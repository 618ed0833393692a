use Rattle.std.proofs.Common.{◌≡◌, ◌++◌, ◌∷◌, [], ℕ, List, OnOk, codes, subst, append_assoc}
use Rattle.stn_site.specs.Lines.{line}
use Rattle.stn_site.proofs.lines.append_link_line.Goals as goal

-- the pieces of a line, and the line
pieced : (name side from to limit : List ℕ) → name ++ ((codes " " ++ side ++ codes " ") ++ (from ++ (codes " " ++ (to ++ (codes " " ++ (limit ++ 10 ∷ []))))))
    ≡ line (name ++ codes " " ++ side ++ codes " " ++ (from ++ codes " " ++ to ++ codes " " ++ limit))
pieced name side from to limit = simp append_assoc

pub returns-clause-line : goal.returns-clause-line
returns-clause-line g c =
    let text = rw (c.bound_name.ensures, c.side_text.ensures, c.from.ensures.value, c.to.ensures.value, c.limit_of.ensures, c.bound_at-bound.ensures) at c.append_pieces.ensures.text in
    subst (λ (it : List ℕ). OnOk c.append_pieces.result (c.append_pieces.new.out.items ≡ c.args.out.now.items ++ it)) (pieced _ _ _ _ _) text
