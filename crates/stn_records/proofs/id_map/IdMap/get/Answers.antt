use Rattle.stn_records.proofs.Places.{read_at_place, none_at_gap}
use Rattle.stn_records.proofs.id_map.IdMap.get.Goals as goal

pub returns-in-Ok : goal.returns-in-Ok
returns-in-Ok g c = read_at_place c.args.self.now c.entries-entries.result.now c.args.id c.in-Ok.place c.entries-entries.ensures.value c.index-entries-place.result c.in-Ok.ensures.found

pub returns-in-Err : goal.returns-in-Err
returns-in-Err g c = none_at_gap c.args.self.now c.entries-entries.result.now c.args.id c.in-Err.field-0 c.entries-entries.ensures.value c.in-Err.ensures.absent
