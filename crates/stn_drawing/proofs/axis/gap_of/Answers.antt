use Rattle.std.proofs.Common.{ℕ, Bool, if◌then◌else◌, drop, get_or, sym, subst, ap, ◌∙◌, ◌+◌, ◌<◌, ◌≡◌, arith}
use Rattle.stn_drawing.{specs.Axis.{gaps, gaps_in, first_gap, gap_of}, proofs.AxisGaps.{gap_at, first_drop, few_gaps}}
use Rattle.stn_drawing.proofs.axis.gap_of.Goals as goal

pub fits-requires-clause-gap : goal.fits-requires-clause-gap
fits-requires-clause-gap c = omega (arith, gap_at)

pub fits-requires-clause-small : goal.fits-requires-clause-small
fits-requires-clause-small c = (gap_at c.loop-gap-test.true).1

pub returns-then-fits-clause-gap : goal.returns-then-fits-clause-gap
returns-then-fits-clause-gap c =
    let gap = get_or gaps c.loop-gap.gap-index 0 in
    let rest = first_gap c.args.before c.args.after (drop (c.loop-gap.gap-index + 1) gaps) in
    sym (c.loop-gap.invariant ∙ first_drop c.args.before c.args.after gaps c.loop-gap-test.true
    ∙ ap (λ (b : Bool). if b then gap else rest) (sym c.fits.ensures ∙ c.if-fits.true))

pub returns-then-fits-clause-least : goal.returns-then-fits-clause-least
returns-then-fits-clause-least c = (gap_at c.loop-gap-test.true).0

pub returns-then-fits-clause-most : goal.returns-then-fits-clause-most
returns-then-fits-clause-most c = (gap_at c.loop-gap-test.true).1

pub returns-then-fits-clause-few : goal.returns-then-fits-clause-few
returns-then-fits-clause-few c =
    let gap = get_or gaps c.loop-gap.gap-index 0 in
    let rest = first_gap c.args.before c.args.after (drop (c.loop-gap.gap-index + 1) gaps) in
    let is : gap_of c.args.before c.args.after ≡ gap =
    c.loop-gap.invariant ∙ first_drop c.args.before c.args.after gaps c.loop-gap-test.true
    ∙ ap (λ (b : Bool). if b then gap else rest) (sym c.fits.ensures ∙ c.if-fits.true) in
    subst (λ (g : ℕ). gaps_in g c.args.before + gaps_in g c.args.after < 16384) is (few_gaps c.args.before c.args.after c.requires.before c.requires.after)

pub loop-gap-preserved : goal.loop-gap-preserved
loop-gap-preserved c =
    let gap = get_or gaps c.loop-gap.gap-index 0 in
    let rest = first_gap c.args.before c.args.after (drop (c.loop-gap.gap-index + 1) gaps) in
    c.loop-gap.invariant ∙ first_drop c.args.before c.args.after gaps c.loop-gap-test.true
    ∙ ap (λ (b : Bool). if b then gap else rest) (sym c.fits.ensures ∙ c.if-fits.false)
