use Rattle.stn_reasons.proofs.reason.RefusedCommand.meaning.Goals as goal

pub returns : goal.returns
returns g c = rw c.format-word.ensures.text at c.meaning_of.ensures
