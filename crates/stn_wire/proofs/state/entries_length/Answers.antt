use Rattle.std.proofs.Common.{◌+◌, ◌*◌, length, sym, ◌∙◌}
use Rattle.stn_wire.proofs.States.{amendments_sized}
use Rattle.stn_wire.proofs.state.entries_length.Goals as goal

pub returns-else-is_empty : goal.returns-else-is_empty
returns-else-is_empty c =
    (λ i. 2 + length c.args.entries.now * c.size.ensures i) ∙ sym (amendments_sized c.args.entries.now (sym c.is_empty.ensures ∙ c.if-is_empty.false))
