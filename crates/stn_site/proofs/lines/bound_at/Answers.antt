use Rattle.std.proofs.{Common.{◌∙◌, sym}, lemmas.List.{get_or_read, get_or_append_left}}
use Rattle.stn_site.proofs.lines.bound_at.Goals as goal

pub returns-then-place-base : goal.returns-then-place-base
returns-then-place-base c =
    let base = c.args.base.now in
    get_or_read base c.args.place _ c.if-place-base.true c.index-base-place.is _ ∙ sym (get_or_append_left base c.args.others.now _ c.args.place c.if-place-base.true)
