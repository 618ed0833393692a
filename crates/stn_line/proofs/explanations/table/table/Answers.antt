use Rattle.std.proofs.Common.{refl}
use Rattle.stn_text.specs.Lines.{lines_of}
use Rattle.stn_line.proofs.explanations.table.table.Goals as goal

pub returns : goal.returns
unfolding lines_of
returns c = record { each = refl; said = refl }
