-- A plan and a state have one text of what mends a conflict.
use Rattle.std.proofs.Common.{rules, List, [], ◌∷◌, ◌++◌, sym, ◌∙◌, ⊎_elim}
use Rattle.stn_net.specs.Difference.{Difference}
use Rattle.stn_records.specs.{Id.SiteCounter, declared.record.Record.Record}
use Rattle.stn_repairs.{specs.{Dropped.{AreRefused, AreDropped}, Text.{SaysRepairs, SaysWhatMends}}, proofs.OneRepairs.one_list}
use Rattle.stn_laws.proofs.One.{IsOne}

one_refused : (kept : List Difference) (order : List (SiteCounter × Record)) → IsOne (AreRefused kept order)
one_refused kept [] these those p q = p ∙ sym q
one_refused kept (entry ∷ rest) these those p q = search (rules, (one_refused (kept ++ entry.1.bound ∷ []) rest these those), (one_refused kept rest))

one_drop : (base : List Difference) (live : List (SiteCounter × Record)) → IsOne (AreDropped base live)
one_drop base live these those p q = search (rules, one_refused)

one_mending : (base : List Difference) (live : List (SiteCounter × Record)) → IsOne (SaysRepairs base live)
one_mending base live text other p q =
    let repairs = one_list base live live _ _ p.are q.are in
    let dropped = one_drop base live p.dropped q.dropped p.drop q.drop in
    cc

-- bounds and records have one such text
pub one_said : (base : List Difference) (live : List (SiteCounter × Record)) → IsOne (SaysWhatMends base live)
one_said base live text other p q =
    ⊎_elim
    (λ mine. ⊎_elim (λ theirs. mine.1 ∙ sym theirs.1) (λ theirs. absurd (theirs.conflict mine.0)) q)
    (λ mine. ⊎_elim (λ theirs. absurd (mine.conflict theirs.0)) (λ theirs. one_mending base live text other mine theirs) q)
    p
