use Rattle.std.proofs.{Common.{◌≡◌, ◌∙◌, sym}, lemmas.Slice.Eq.bytes_eq-Decides}
use Rattle.stn_lift.proofs.source.Source.same.Goals as goal

pub returns-then-eq : goal.returns-then-eq
returns-then-eq g c =
    let domains : c.in-Files-Files.domain.items ≡ c.in-Files-Files.other_domain.items =
    rw (← c.as_slice.ensures.value, ← c.as_slice-in-Files-Files.ensures.value) ((bytes_eq-Decides _ _).0 (sym c.eq.ensures ∙ c.if-eq.true)) in
    let plans = rw (c.as_slice-then-eq.ensures.value, c.as_slice-then-eq-2.ensures.value) at c.eq-then-eq.ensures in
    let decides = bytes_eq-Decides c.in-Files-Files.plan.items c.in-Files-Files.other_plan.items in
    rw (c.in-Files-Files.is-0, c.in-Files-Files.is-1, plans) (λ same. let plan = decides.0 same in cc, λ same. decides.1 (cc))
