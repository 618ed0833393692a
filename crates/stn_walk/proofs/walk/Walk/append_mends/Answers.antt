use Rattle.std.proofs.Common.{◌≡◌, ◌+◌, ◌++◌, List, ℕ, true, codes, decimal, append_assoc, ◌∙◌, sym, rules}
use Rattle.stn_time.specs.Text.{printed}
use Rattle.stn_records.specs.Id.{same_ids}
use Rattle.stn_drawing.proofs.Grown.{written}
use Rattle.stn_walk.specs.Walk.{leaves_text}
use Rattle.stn_walk.proofs.walk.Walk.append_mends.Goals as goal

-- the pieces of the text
pieced : (out a base b left words end : List ℕ) {text : List ℕ} → left ++ words ≡ text
    → out ++ (a ++ (base ++ (b ++ (left ++ (words ++ end))))) ≡ out ++ (a ++ base ++ b ++ text ++ end)
pieced out a base b left words end is = simp (append_assoc, sym is)

pub returns : goal.returns
returns g c =
    let out = c.args.out.now.items in
    let same : same_ids c.args.repair.id c.args.id ≡ true = search rules in
    written c.in_memory.result c.write.result _ _ _ c.in_memory.ensures c.write.ensures.bytes
    (rw same (pieced out (codes "<text class='j' x='124' y='") (decimal (c.top_of.result + 29)) (codes "'>alone mends it: ") (printed c.left_by.result.0.0) c.left_by.result.1.now (codes "</text>\n") c.left_by.ensures
    ∙ (λ i. out ++ (codes "<text class='j' x='124' y='" ++ decimal (c.top_of.ensures.value i + 29) ++ codes "'>alone mends it: " ++ leaves_text (c.row_link.ensures i).side c.args.repair ++ codes "</text>\n"))))
