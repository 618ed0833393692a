use Rattle.std.{proofs.{Common.{rules, ◌≡◌, ◌+◌, suc, ◌++◌, List, [], ◌∷◌, map, sym, ◌∙◌, subst, arith}, lemmas.{Grind.common_steps, List.{map-append, length-map}}}, specs.Rc.rc_value}
use Rattle.stn_records.specs.Content.{Content}
use Rattle.stn_world.{specs.Whole.IsSoundWorld, proofs.{Sites.{started_more, started_source, started_sound}, Copies.got}}
use Rattle.stn_world.proofs.world.World.opened.Goals as goal

pub index-requires : goal.index-requires
index-requires g c = search (rules, length-map)

pub loop-before-preserved : goal.loop-before-preserved
loop-before-preserved g c =
    let held = g.C.SiteCopy.held in
    let l = c.loop-before in
    let one = c.in_ok-copy.copy in
    let grown : map held c.push-in-loop-before.new.self.items ≡ map held l.copies.items ++ held one ∷ [] = search (rules, map-append)
    in
    let made : c.unwrap-site.result ≡ l.before + 1 = grind (arith, common_steps) in
    let number : (held one).site ≡ suc l.before = omega (arith, c.in_ok-copy.ensures.site, made) in
    let source = started_source l.invariant.2 l.invariant.0 (got held l.copies.items 0 c.index.result.now c.index.ensures) in
    let more = started_more (held one) l.invariant.2 number
    (c.in_ok-copy.ensures.source ∙ source) c.in_ok-copy.ensures.empty in
    let count : suc l.before ≡ l.before + 1 = omega arith in search rules

pub returns-clause-opening : goal.returns-clause-opening
returns-clause-opening g c = grind arith

pub invariant_of-result : goal.invariant_of-result
invariant_of-result g c =
    let held = g.C.SiteCopy.held in
    let all : c.loop-before.before ≡ c.args.sites = omega (arith, c.loop-before.invariant.1) in
    subst (λ (l : List Content). IsSoundWorld (rc_value c.args.base) (map held c.loop-before.copies.items) l) (sym c.new-2.ensures.items)
    (started_sound c.loop-before.invariant.2 c.loop-before.invariant.0 (omega (arith, all, c.requires.sites.most)))
