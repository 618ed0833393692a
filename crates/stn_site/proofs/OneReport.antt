-- A plan and a state have one report.
use Rattle.std.proofs.{Common.{rules, ◌≡◌, ℕ, zero, suc, ◌+◌, ◌⊎◌, List, [], ◌∷◌, Bool, Some, sym, subst, ◌∙◌}, lemmas.List.Elements.All-take}
use Rattle.stn_net.{specs.{Difference.Difference, Schedule.{HasSchedule, Meets}}, proofs.WindowEnds.one_window}
use Rattle.stn_lift.specs.PlanSource.{PlanSource}
use Rattle.stn_records.specs.{Id.SiteCounter, declared.record.Record.Record, Content.{Content, live_of, replaced_count}}
use Rattle.stn_conflict.specs.{declared.links.Link.Link, Named.IsNamedCycle}
use Rattle.stn_site.specs.Report.{IsWindowLines, IsWindowsPart, IsConflictPart, IsReport}

abbrev Entries : Type 0
Entries = List (SiteCounter × Record)

one_lines : (bounds : List Difference) (done : ℕ → Bool) → HasSchedule bounds → (n : ℕ) (text other : List ℕ) → IsWindowLines bounds done n text → IsWindowLines bounds done n other → text ≡ other
one_lines bounds done s zero text other p q = p ∙ sym q
one_lines bounds done s (suc n) text other p q =
    let ends = one_window bounds (suc n) p.1 p.2 q.1 q.2 s p.4 q.4 in
    let before = one_lines bounds done s n p.0 q.0 p.3 q.3 in
    cc

-- bounds with a named cycle have no schedule
no_schedule : (bounds : List Difference) (links : List Link) → IsNamedCycle bounds links → ¬ HasSchedule bounds
no_schedule bounds [] p s = p
no_schedule bounds (link ∷ links) p s =
    p.0.refused (s.0, record { origin = s.1.origin; met = All-take (Meets s.0) (link.place + 1) bounds s.1.met })

one_rest : (source : PlanSource) (state : Content)
    → ((bounds : List Difference) → (one other : List Link) → IsNamedCycle bounds one → IsNamedCycle bounds other → one ≡ other)
    → (rest other : List ℕ) → IsWindowsPart source state rest ⊎ IsConflictPart source state rest → IsWindowsPart source state other ⊎ IsConflictPart source state other → rest ≡ other
one_rest source state unique rest other p q = search (rules, one_lines, no_schedule)

-- where a list of bounds has one named cycle at most, a plan and a state have one report
pub one_report : ((bounds : List Difference) → (one other : List Link) → IsNamedCycle bounds one → IsNamedCycle bounds other → one ≡ other)
    → (source : PlanSource) (state : Content) (text other : List ℕ) → IsReport source state text → IsReport source state other → text ≡ other
one_report unique source state text other p q = cc (one_rest source state unique p.rest q.rest p.part q.part)

-- equal states have one report
pub same_states : (source : PlanSource) (s t : Content) (text other : List ℕ)
    → ((state : Content) → (text other : List ℕ) → IsReport source state text → IsReport source state other → text ≡ other)
    → Some s ≡ Some t → IsReport source s text → IsReport source t other → text ≡ other
same_states source s t text other law is p q =
    let same : s ≡ t = cc in
    law t text other (subst (λ state. IsReport source state text) same p) q

-- equal plans and equal states have one report
pub same_reports : ((source : PlanSource) (state : Content) (text other : List ℕ) → IsReport source state text → IsReport source state other → text ≡ other)
    → (a b : PlanSource) (s t : Content) (text other : List ℕ) → a ≡ b → s ≡ t → IsReport a s text → IsReport b t other → text ≡ other
same_reports law a b s t text other plan state p q =
    law b t text other (subst (λ x. IsReport b x text) state (subst (λ x. IsReport x s text) plan p)) q

-- a report depends on the live records and the number of replaced ids alone
pub counted_reports : (source : PlanSource) (s t : Content) (text : List ℕ) → live_of s ≡ live_of t → replaced_count s ≡ replaced_count t → IsReport source s text → IsReport source t text
counted_reports source s t text live count p = search rules
