use Rattle.std.proofs.{lemmas.Grind.common_steps, Common.arith}
use Rattle.stn_site.proofs.Count.{few_replaced, replaced_counted}
use Rattle.stn_site.proofs.report.replaced_count.Goals as goal

pub overflow_cast-result : goal.overflow_cast-result
overflow_cast-result g c = grind (arith, common_steps, few_replaced)

pub returns-clause-value : goal.returns-clause-value
returns-clause-value g c = cc (replaced_counted c.args.records.now)
