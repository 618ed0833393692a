use Rattle.std.{proofs.{Common.{◌≡◌, ◌++◌, ◌==◌, false, codes, length, ap, sym, ◌∙◌}, lemmas.List.length-map}}
use Rattle.stn_drawing.proofs.Grown.{then, last}
use Rattle.stn_walk.specs.{Walk.event_words, Seen.seen_walk}
use Rattle.stn_walk.proofs.walk.Walk.append_title.Goals as goal

pub returns : goal.returns
returns g c =
    let out = c.args.out.now.items in
    let walk = seen_walk c.args.self.now in
    let bound = c.bound_of-bound.ensures in
    let named : (length walk.names == 0) ≡ false = ap (λ n. n == 0) (length-map _ _) ∙ sym c.is_empty.ensures ∙ c.if-is_empty.false in
    let words = then out _ _ (then out _ _ c.in_ok-extend_from_slice.ensures.items c.in_ok-append_event_words.ensures) c.in_ok-append_event_words-2.ensures in
    last c.extend_from_slice-2.result out _ _ _ words c.extend_from_slice-2.ensures.items
    (rw named (λ i. out ++ (codes "<title>" ++ event_words walk ((c.from.ensures.value ∙ ap (λ b. b.from) bound) i) ++ event_words walk ((c.to.ensures.value ∙ ap (λ b. b.to) bound) i) ++ codes "</title>")))
