-- How many records say that an event is done, of those that are left.
use Rattle.std.proofs.Common.{ℕ, List, filter, length}
use Rattle.stn_records.specs.{Id.SiteCounter, declared.record.Record.Record}
use Rattle.stn_logs.specs.Hints.{is_done_of}

abbrev pub done_in : ℕ → List (SiteCounter × Record) → ℕ
done_in event records = length (filter (λ entry. is_done_of event entry.1) records)
