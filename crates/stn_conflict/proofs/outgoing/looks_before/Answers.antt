use Rattle.std.proofs.{Common.{ltb-false, ltb-true, nat_lt, rules, arith}, lemmas.List.Sorted.{IsPartitionPoint-from_clause, IsPartitionedBy-ltb}}
use Rattle.stn_conflict.proofs.outgoing.looks_before.Goals as goal

-- the closure tells whether a look's link is of a bound before the place
pub returns : goal.returns
returns c =
    let facts = c.partition_point.ensures in
    let rising = IsPartitionedBy-ltb (λ look. look.link.place) c.args.row.now c.args.place c.requires in
    let (front, back) = IsPartitionPoint-from_clause (λ look. nat_lt look.link.place c.args.place) c.args.row.now c.partition_point.result facts.partitioned rising (λ a r f called. search rules) in
    record {
      within = facts.bound;
      before = λ k look low. ltb-true _ _ (front k look (omega arith) low);
      behind = λ k look low high. ltb-false _ _ (back k look low high);
    }
