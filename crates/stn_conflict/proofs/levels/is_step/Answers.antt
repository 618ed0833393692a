use Rattle.std.proofs.Common.{rules, ◌≡◌, ◌∙◌, ℕ, List, Option, Some, eqb-true, refl, sym, ap, arith}
use Rattle.stn_net.specs.Difference.{Difference}
use Rattle.stn_conflict.{specs.{declared.links.Link.Link, Arcs.arc_of, Search.level_at}, proofs.{Tightness.link_among, Steps.step_told, levels.is_step.{Given.Over, Goals.After-from-2}}}
use Rattle.stn_conflict.proofs.levels.is_step.Goals as goal

-- the events whose levels are read are those of the link's ends, and have levels
record Ends (bounds : List Difference) (levels : List (Option ℕ)) (link : Link) (begin end : ℕ) : Type 0 where
  begin_is : begin ≡ (arc_of bounds link).from
  begin_has : (level : ℕ) × (level_at levels begin ≡ Some level)
  end_is : end ≡ (arc_of bounds link).to
  end_has : (level : ℕ) × (level_at levels end ≡ Some level)

ends : (g : Over) (c : After-from-2 g) → Ends c.args.graph.now.bounds c.args.levels.now c.args.link c.from.result c.from-2.result
ends g c = search rules

pub unwrap-begin-requires : goal.unwrap-begin-requires
unwrap-begin-requires g c =
    let (begin_there, _) = link_among c.args.graph.now.bounds c.args.link c.requires.far.named c.requires.there in
    let (level, at) = c.requires.levels.levels.every _ begin_there in
    rw (c.from.ensures ∙ c.number.ensures.value ∙ c.arc-arc.ensures.from, at) refl

pub unwrap-end-requires : goal.unwrap-end-requires
unwrap-end-requires g c =
    let (level, at) = (ends g (goal.at.unwrap-end-requires g c).After-from-2).end_has in
    rw at refl

pub returns-then-begin-end : goal.returns-then-begin-end
returns-then-begin-end g c =
    let levels = level_at c.args.levels.now in
    let e = ends g (goal.at.returns-then-begin-end g c).After-from-2 in
    let told = step_told c.requires.levels.levels
    (ap levels (sym e.begin_is) ∙ c.unwrap-begin.ensures) (ap levels (sym e.end_is) ∙ c.unwrap-end.ensures) in
    (λ t. told.1 (c.is_tight.ensures.0 t, omega (arith, c.if-begin-end.true)), λ step. c.is_tight.ensures.1 step.tight)

pub returns-else-begin-end : goal.returns-else-begin-end
returns-else-begin-end g c =
    let levels = level_at c.args.levels.now in
    let e = ends g (goal.at.returns-else-begin-end g c).After-from-2 in
    let told = step_told c.requires.levels.levels
    (ap levels (sym e.begin_is) ∙ c.unwrap-begin.ensures) (ap levels (sym e.end_is) ∙ c.unwrap-end.ensures) in
    (λ t. absurd (omega (arith, c.if-begin-end.false, eqb-true _ _ t)), λ step. absurd (omega (arith, c.if-begin-end.false, (told.0 step).1)))
