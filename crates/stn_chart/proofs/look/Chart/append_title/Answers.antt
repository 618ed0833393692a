use Rattle.std.{proofs.Common.{◌≡◌, ◌++◌, ℕ, List, codes, refl, sym, ◌∙◌, append_assoc}, specs.Fmt.decimal}
use Rattle.stn_drawing.proofs.Grown.{on_ok, then, last}
use Rattle.stn_chart.specs.{Rows.{whole_name, window_text}, Seen.seen_chart}
use Rattle.stn_chart.proofs.look.Chart.append_title.Goals as goal

-- two pieces more
both : (front seen a b : List ℕ) {middle end : List ℕ} → middle ≡ front ++ seen → end ≡ middle ++ (a ++ b) → end ≡ front ++ (seen ++ a ++ b)
both front seen a b {middle} first second = then front (seen ++ a) b (then front seen a first refl) (second ∙ sym (append_assoc middle a b))

pub returns : goal.returns
returns g c =
    let out = c.args.out.now.items in
    let chart = seen_chart c.args.self.now in
    let name = then out _ _ (on_ok _ c.write.result c.in_ok-in_memory.ensures c.write.ensures.bytes) c.in_ok-append_whole_name.ensures in
    let first = both out _ (codes ": starts ") _ name c.in_ok-append_window.ensures in
    let second = both out _ (codes ", ends ") _ first c.in_ok-append_window-2.ensures in
    last c.extend_from_slice.result out _ _ _ second c.extend_from_slice.ensures.items
    (λ i. out ++ (codes "<g><title>" ++ decimal c.args.step ++ codes " " ++ whole_name chart c.args.step ++ codes ": starts " ++ window_text chart (c.start_of.ensures i) ++ codes ", ends " ++ window_text chart (c.end_of.ensures i) ++ codes "</title>"))
