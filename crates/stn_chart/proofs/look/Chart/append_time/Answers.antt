use Rattle.std.{proofs.{Common.{◌++◌, ℤ, w64, codes, ap, ◌∙◌}, lemmas.Int.to_z-of_z}, specs.Fmt.decimal}
use Rattle.stn_time.specs.Text.{printed}
use Rattle.stn_site.specs.Windows.{window_at}
use Rattle.stn_drawing.proofs.Grown.{written}
use Rattle.stn_chart.proofs.Drawing.{regrouped}
use Rattle.stn_chart.proofs.look.Chart.append_time.Goals as goal

pub returns : goal.returns
returns g c =
    let out = c.args.out.now.items in
    let latest = to_z-of_z w64 c.get.result (record { sfits = c.get.type_inv }) ∙ c.get.ensures.value
    ∙ ap (λ (w : ℤ × ℤ). w.1) (c.window_at-latest.ensures ∙ ap (window_at c.args.self.now.windows.now) c.end_of.ensures) in
    written c.in_memory.result c.write.result _ _ _ c.in_memory.ensures c.write.ensures.bytes
    (regrouped out (codes "<text class='") _ (codes "' x='") _ (codes "' y='") _ (codes "'>") _ (codes "</text>")
    ∙ (λ i. out ++ (codes "<text class='" ++ c.time_class-class.ensures i ++ codes "' x='" ++ decimal (c.behind-left.ensures i) ++ codes "' y='" ++ decimal (c.words_base-base.ensures i) ++ codes "'>" ++ printed (latest i) ++ codes "</text>")))
