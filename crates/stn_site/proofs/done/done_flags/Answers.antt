use Rattle.std.proofs.{Common.{List, ◌||◌, refl, ap, ◌∙◌, false}, Math.Bool.or-false}
use Rattle.stn_records.specs.{Id.SiteCounter, declared.record.Record.Record}
use Rattle.stn_site.{specs.Report.says_done, proofs.Flags.get_or-replicate_same}
use Rattle.stn_site.proofs.done.done_flags.Goals as goal

pub loop-record-init : goal.loop-record-init
loop-record-init g c = record {
  one_each = refl;
  done = λ event within.
      ap (λ b. says_done c.into_iter-record-iterator.result event || b) (get_or-replicate_same 513 false event) ∙ or-false _
      ∙ ap (λ (records : List (SiteCounter × Record)). says_done records event) (c.into_iter-record-iterator.ensures.into_iter_gives ∙ c.live_records-record-items.ensures.live);
}
