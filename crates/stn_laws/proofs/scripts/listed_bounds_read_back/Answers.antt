use Rattle.stn_laws.proofs.scripts.ReadBack.{named_back, record_back}
use Rattle.stn_laws.proofs.scripts.listed_bounds_read_back.Goals as goal

pub returns-clause-bounds : goal.returns-clause-bounds
returns-clause-bounds c = named_back

pub returns-clause-records : goal.returns-clause-records
returns-clause-records c = record_back
