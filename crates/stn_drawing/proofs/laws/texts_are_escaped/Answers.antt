use Rattle.stn_drawing.proofs.Escaping.{shown_text}
use Rattle.stn_drawing.proofs.laws.texts_are_escaped.Goals as goal

pub returns : goal.returns
returns c = shown_text
