use Rattle.std.proofs.Common.{◌++◌, ◌+◌, codes}
use Rattle.stn_drawing.proofs.Grown.{on_ok, then, last}
use Rattle.stn_walk.specs.{Walk.{name_opening, link_name, words_opening, asked_text}, Seen.seen_walk}
use Rattle.stn_walk.proofs.walk.Walk.append_words.Goals as goal

pub returns : goal.returns
returns g c =
    let out = c.args.out.now.items in
    let walk = seen_walk c.args.self.now in
    let top = c.top_of.ensures.value in
    let opening = on_ok _ c.write.result c.in_ok-in_memory.ensures c.write.ensures.bytes in
    let name = then out _ _ opening c.in_ok-append_link_name.ensures in
    let words = then out _ _ name (on_ok _ c.write-2.result c.in_ok-in_memory-2.ensures c.write-2.ensures.bytes) in
    let asked = then out _ _ words c.in_ok-append_asked.ensures in
    last c.extend_from_slice.result out _ _ _ asked c.extend_from_slice.ensures.items
    (λ i. out ++ (name_opening (top i + 15) ++ link_name walk c.args.row ++ words_opening (top i + 15) ++ asked_text walk (c.row_link.ensures i).side (c.bound_of.ensures i) ++ codes "</text>\n"))
