use Rattle.std.proofs.{Common.{rules, nat_le}, lemmas.List.Sorted.{IsPartitionPoint-from_clause, IsPartitionedBy-leb}}
use Rattle.stn_records.proofs.Counters.{sites_rise, ends}
use Rattle.stn_records.proofs.sorted.end_of.Goals as goal

-- the closure tells whether an entry's site is not above the site
pub returns : goal.returns
returns g c =
    let facts = c.partition_point.ensures in
    let rising = IsPartitionedBy-leb (λ entry. entry.0.site) c.args.entries.now c.args.site (sites_rise c.args.site c.args.entries.now c.requires) in
    ends c.args.site c.args.entries.now c.partition_point.result facts.bound
    (IsPartitionPoint-from_clause (λ entry. nat_le entry.0.site c.args.site) c.args.entries.now c.partition_point.result facts.partitioned rising (λ a r f called. search rules))
