use Rattle.std.{proofs.Common.rules, specs.{Ordering.int_cmp, List.Sorted.{IsSortedByKey, IsStableByKey}}}
use Rattle.stn_net.specs.Schedule.{times_of}
use Rattle.stn_loosen.{specs.Loosened.gap, proofs.Lists.key_given}
use Rattle.stn_loosen.proofs.nearest.sort_by_gap.Goals as goal

pub returns : goal.returns
returns g c =
    let planned = times_of c.args.planned.now in
    let new = c.sort_by_key.new.self.items in
    let old = c.args.orders.now.items in
    record {
      same = c.in_ok-sort_by_key.ensures.permutation;
      nearest = key_given (gap planned) (λ key. IsSortedByKey key int_cmp new) c.in_ok-sort_by_key.ensures.sorted (λ a r q k. search rules);
      stable = key_given (gap planned) (λ key. IsStableByKey key int_cmp old new) c.in_ok-sort_by_key.ensures.stable (λ a r q k. search rules);
    }
