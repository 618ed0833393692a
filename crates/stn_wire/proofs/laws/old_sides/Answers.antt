use Rattle.stn_wire.proofs.OldSides.{record_read, record_written}
use Rattle.stn_wire.proofs.laws.old_sides.Goals as goal

pub returns-clause-read : goal.returns-clause-read
returns-clause-read c = record_read

pub returns-clause-all : goal.returns-clause-all
returns-clause-all c = record_written
