use Rattle.std.proofs.Common.{◌++◌, ap, ◌∙◌, rules}
use Rattle.stn_wire.{specs.{Spelling.{two, side_bytes}, declared.layout.Layout.TheVariants.New}, proofs.Parts.append_then}
use Rattle.stn_wire.proofs.fields.append_bound.Goals as goal

pub returns-clause-appended : goal.returns-clause-appended
returns-clause-appended g c =
    let bound = c.args.bound.now in
    let old = c.args.out.now.items in
    let first = c.append_two.new.out.items in
    let second = c.append_two-2.new.out.items in
    let third = c.append_side.new.out.items in
    let all = c.append_side-2.new.out.items in
    let r = c.append_side-2.result in
    append_then r old first all (two bound.from) (two bound.to ++ (side_bytes New bound.lo ++ side_bytes New bound.hi)) (c.in_ok-append_two.ensures ∙ ap (λ n. old ++ two n) (c.number.ensures.value ∙ c.from.ensures.value))
    (append_then r first second all (two bound.to) (side_bytes New bound.lo ++ side_bytes New bound.hi) (c.in_ok-append_two-2.ensures ∙ ap (λ n. first ++ two n) (c.number-2.ensures.value ∙ c.to.ensures.value))
    (append_then r second third all (side_bytes New bound.lo) (side_bytes New bound.hi) (c.in_ok-append_side.ensures.appended ∙ ap (λ n. second ++ side_bytes New n) c.lo.ensures.value) (search rules)))
