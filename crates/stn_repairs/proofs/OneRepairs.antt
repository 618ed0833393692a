-- Bounds and records have one list of repairs.
use Rattle.std.proofs.Common.{rules, ◌≡◌, List, [], ◌∷◌, sym, ◌∙◌, ⊎_elim}
use Rattle.stn_net.{specs.Difference.Difference, proofs.Ranges.one_range}
use Rattle.stn_records.specs.{Id.SiteCounter, declared.record.Record.Record}
use Rattle.stn_repairs.specs.{declared.repair.Repair.Repair, Repairs.{others, IsRepair, AreRepairs}}

-- a record has one repair
one_repair : (bounds : List Difference) (id : SiteCounter) (bound : Difference) (one other : Repair) → IsRepair bounds id bound one → IsRepair bounds id bound other → one ≡ other
one_repair bounds id bound one other p q =
    let ends = one_range bounds bound.from bound.to one.least one.greatest other.least other.greatest p.possible p.range q.range in
    search rules

-- the repairs by records are one list
pub one_list : (base : List Difference) (live rest : List (SiteCounter × Record)) (these those : List Repair)
    → AreRepairs base live rest these → AreRepairs base live rest those → these ≡ those
one_list base live [] these those p q = p ∙ sym q
one_list base live (entry ∷ rest) these those p q =
    ⊎_elim
    (λ mine. ⊎_elim
    (λ theirs. one_list base live rest these those mine.1 theirs.1)
    (λ theirs. absurd (mine.0 theirs.2.possible)) q)
    (λ mine. ⊎_elim
    (λ theirs. absurd (theirs.0 mine.2.possible))
    (λ theirs.
    let first = one_repair (others base live entry.0) entry.0 entry.1.bound mine.0 theirs.0 mine.2 theirs.2 in
    let later = one_list base live rest mine.1 theirs.1 mine.3 theirs.3 in
    mine.4 ∙ (λ i. first i ∷ later i) ∙ sym theirs.4) q)
    p
