use Rattle.std.proofs.lemmas.List.Sorted.{IsNonDecreasingBy-from_sort}
use Rattle.stn_lift.proofs.numbers.Numbers.sorted.Goals as goal

pub invariant_of-result : goal.invariant_of-result
invariant_of-result g c = IsNonDecreasingBy-from_sort (λ n. n) c.sort_unstable.new.self.items c.sort_unstable.ensures.sorted
