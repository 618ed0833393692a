use Rattle.std.proofs.Common.{rules, ◌≡◌, ◌==◌, false, List, length}
use Rattle.stn_records.specs.Id.{SiteCounter}
use Rattle.stn_wire.specs.Spelling.{amendment_bytes, amendments_bytes, counted}
use Rattle.stn_wire.proofs.state.append_entries.Goals as goal

some_entries : (entries : List (SiteCounter × SiteCounter)) → false ≡ (length entries == 0) → amendments_bytes entries ≡ counted amendment_bytes entries
some_entries entries none = search rules

pub returns : goal.returns
returns g c = rw (some_entries c.args.entries.now c.if-is_empty.ensures) (record { appended = c.append_counted.ensures.appended; said = c.append_counted.ensures.counted })
