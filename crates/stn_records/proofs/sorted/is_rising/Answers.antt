use Rattle.std.proofs.{Common.{rules, is_lt}, lemmas.Fn.always_returns_same}
use Rattle.stn_records.{specs.{Id.id_cmp, ContentLaws.ids_total}, proofs.Entries.rising_test}
use Rattle.stn_records.proofs.sorted.is_rising.Goals as goal

-- the closure tells whether the id rises
pub returns : goal.returns
returns g c = rising_test ids_total c.args.entries.now c.is_sorted_by.result (c.is_sorted_by.ensures.cases (λ x y. is_lt (id_cmp x.0 y.0)) (always_returns_same _ _ _ (λ a r f called. search rules)))
