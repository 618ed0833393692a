use Rattle.std.{proofs.Common.{◌≡◌, ℤ, ap, ◌∙◌}, specs.{Prelude.◌+ℤ◌, Ordering.int_eq}}
use Rattle.stn_site.specs.Windows.{window_at}
use Rattle.stn_chart.proofs.Times.{sum_is}
use Rattle.stn_chart.proofs.holders.holds_lower.Goals as goal

pub returns : goal.returns
returns c =
    let windows = c.args.windows.now in
    let other : c.get.result ≡ (window_at windows c.args.bound.from).0 =
    c.get.ensures.value ∙ ap (λ (w : ℤ × ℤ). w.0) (c.window_at-other.ensures ∙ ap (window_at windows) (c.from-2.ensures ∙ c.number.ensures.value ∙ c.from.ensures.value)) in
    let side : c.get-2.result ≡ c.args.bound.lo = c.get-2.ensures.value ∙ c.lo.ensures.value in
    let here : c.get-3.result ≡ (window_at windows c.args.event).0 = c.get-3.ensures.value ∙ ap (λ (w : ℤ × ℤ). w.0) c.window_at.ensures in
    sum_is c.get.result c.get-2.result c.get-3.result c.get.ensures.within c.get-2.ensures.within c.get-3.ensures.within
    ∙ (λ i. int_eq (other i +ℤ side i) (here i))
