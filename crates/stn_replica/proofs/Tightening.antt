-- Tightening a matrix by the bounds of records, one after another.
use Rattle.std.proofs.{Common.{rules, ◌≡◌, ◌+◌, ◌≤◌, List, [], ◌∷◌, ◌++◌, length, min, sym, ap, subst, ◌∙◌, arith, append_assoc, append-nil, length-append, All}, lemmas.List.{map-append, Elements.All-head}}
use Rattle.stn_time.proofs.Each.{All-right}
use Rattle.stn_net.{specs.{Difference.{Difference, NamesEvents}, Schedule.{HasSchedule, IsSchedule}, Matrix.{Table.Table, Tightest.IsExact}}, proofs.Closure.schedule_before}
use Rattle.stn_records.specs.{Id.SiteCounter, declared.record.Record.Record}
use Rattle.stn_site.specs.Bounds.{bounds_of}

-- the matrix has taken the bounds of the first of the records, and no more
pub record IsTightenedBy (records seen ahead : List (SiteCounter × Record)) (first now : Table) : Type 0 where
  pub parts : records ≡ seen ++ ahead
  pub exact : (bounds : List Difference) → IsExact bounds first → IsExact (bounds ++ bounds_of seen) now
  pub events : now.events ≡ first.events
  pub counted : now.steps ≤ 18446744073709551615
  pub least : first.steps ≤ now.steps
  pub most : now.steps ≤ first.steps + length seen

module _ {records seen ahead rest : List (SiteCounter × Record)} {e : SiteCounter × Record} {first now : Table} (p : IsTightenedBy records seen ahead first now) (next : ahead ≡ e ∷ rest) where
  -- the next of the records is one of them
  pub next_among : records ≡ seen ++ e ∷ rest
  next_among = cc

  pub next_named : All (λ entry. NamesEvents first.events entry.1.bound) records → NamesEvents now.events e.1.bound
  next_named named =
      let P : SiteCounter × Record → Type 0 = λ entry. NamesEvents first.events entry.1.bound in
      subst (λ events. NamesEvents events e.1.bound) (sym p.events) (All-head P e rest (All-right P seen (e ∷ rest) (subst (All P) next_among named)))

  -- the matrix takes it
  pub next_taken : {more : Table} → ((bounds : List Difference) → IsExact bounds now → IsExact (bounds ++ e.1.bound ∷ []) more)
      → more.events ≡ now.events → more.steps ≡ min (now.steps + 1) 18446744073709551615
      → IsTightenedBy records (seen ++ e ∷ []) rest first more
  next_taken {more} taken events steps =
      let longer = length-append seen (e ∷ []) in
      record {
        parts = next_among ∙ sym (append_assoc seen (e ∷ []) rest);
        exact = λ bounds exact. subst (λ all. IsExact all more) (search (rules, append_assoc, map-append)) (taken (bounds ++ bounds_of seen) (p.exact bounds exact));
        events = events ∙ p.events;
        counted = omega (arith, p.counted);
        least = omega (arith, p.least, p.counted);
        most = omega (arith, p.most, longer);
      }

  -- where the bounds so far have no schedule with it, all have none
  pub next_conflicts : (bounds : List Difference) → ¬ HasSchedule ((bounds ++ bounds_of seen) ++ e.1.bound ∷ []) → ¬ HasSchedule (bounds ++ bounds_of records)
  next_conflicts bounds none s =
      let whole : bounds ++ bounds_of records ≡ ((bounds ++ bounds_of seen) ++ e.1.bound ∷ []) ++ bounds_of rest = search (rules, next_among, map-append, append_assoc)
      in
      none (s.0, schedule_before ((bounds ++ bounds_of seen) ++ e.1.bound ∷ []) (bounds_of rest) s.0 (subst (λ these. IsSchedule these s.0) whole s.1))

-- at the end it has taken all
pub all_taken : {records seen ahead : List (SiteCounter × Record)} {first now : Table} → IsTightenedBy records seen ahead first now → ahead ≡ []
    → (bounds : List Difference) → IsExact bounds first → IsExact (bounds ++ bounds_of records) now
all_taken {seen = seen} {now = now} p end bounds exact =
    subst (λ all. IsExact (bounds ++ bounds_of all) now) (sym (p.parts ∙ ap (λ back. seen ++ back) end ∙ append-nil seen)) (p.exact bounds exact)
