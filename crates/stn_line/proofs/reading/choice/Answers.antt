use Rattle.stn_line.proofs.reading.choice.Goals as goal

pub returns : goal.returns
returns c = record { steps = c.option.ensures; starts = c.flag.ensures }
