use Rattle.stn_site.proofs.{Counts.counts_alike, OneReport.counted_reports}
use Rattle.stn_site.proofs.laws.same_counts_same_bytes.Goals as goal

pub returns-clause-items : goal.returns-clause-items
returns-clause-items c = counts_alike

pub returns-clause-bytes : goal.returns-clause-bytes
returns-clause-bytes c = λ source s t same text other p q.
    c.one_report.ensures source t text other (counted_reports source s t text (c.counts_same.ensures.live s t same) (c.counts_same.ensures.replaced s t same) p) q
