use Rattle.stn_records.{specs.Content.next_counter, proofs.Counters.{counter_read, next_cases, new_cases}}
use Rattle.stn_records.proofs.records.Records.next_counter.Goals as goal

pub returns : goal.returns
returns g c =
    let is = counter_read c.args.self.now c.args.site c.added.result.now c.replaced.result.now c.added.ensures.value c.replaced.ensures.value
    c.greatest_counter-added.result c.greatest_counter-replaced.result c.max.result c.greatest_counter-added.ensures c.greatest_counter-replaced.ensures c.max.ensures in
    let cases = next_cases c.checked_add.result _ c.ok_or.result c.max.result (next_counter c.args.self.now c.args.site) is c.checked_add.ensures c.ok_or.ensures.value in
    record { next = cases.0; spent = cases.1; new = new_cases c.args.self.now c.args.site c.ok_or.result cases.0 }
