use Rattle.std.proofs.Common.{[], ◌∷◌, ◌++◌, ap, ◌∙◌}
use Rattle.stn_wire.{specs.{Spelling.{mark_byte, bound_bytes}, declared.layout.Layout.TheVariants.New}, proofs.Parts.append_then}
use Rattle.stn_wire.proofs.fields.append_record.Goals as goal

pub returns-clause-appended : goal.returns-clause-appended
returns-clause-appended g c =
    let added = c.args.added.now in
    let old = c.args.out.now.items in
    append_then c.append_bound.result old c.push.new.self.items c.append_bound.new.out.items (mark_byte added.mark ∷ []) (bound_bytes New added.bound)
    (c.in_ok-push.ensures.items ∙ ap (λ n. old ++ (n ∷ [])) c.mark_byte.ensures) c.append_bound.ensures.appended
