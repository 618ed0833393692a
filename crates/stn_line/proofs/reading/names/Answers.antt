use Rattle.stn_line.proofs.reading.names.Goals as goal

pub returns : goal.returns
returns c = record { plan = c.option.ensures; own = c.flag.ensures }
