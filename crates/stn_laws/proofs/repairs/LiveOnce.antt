-- Each id is that of one live record.
use Rattle.std.{proofs.{Common.{◌≡◌, not, Some, sym, ◌∙◌}, lemmas.{List.Elements.All-contains, Option.same_Some}}, specs.{List.Contains, FinMap.{entries, get}}}
use Rattle.stn_records.{specs.{Id.SiteCounter, declared.record.Record.Record, Content.{Content, is_replaced, live_of}, ContentLaws.{ids_total, ids_exact}}, proofs.Gets.entries_from_get}
use Rattle.stn_laws.proofs.repairs.Fewer.{from_filter}

added : (state : Content) (id : SiteCounter) (one : Record) → Contains (entries state.additions) (id, one) → get state.additions id ≡ Some one
added state id one there =
    All-contains (λ (entry : SiteCounter × Record). get state.additions entry.0 ≡ Some entry.1) _ _
    (entries_from_get ids_total ids_exact state.additions (λ (entry : SiteCounter × Record). get state.additions entry.0 ≡ Some entry.1) (λ q v e. e)) there

pub live_once : (state : Content) (id : SiteCounter) (one other : Record) → Contains (live_of state) (id, one) → Contains (live_of state) (id, other) → one ≡ other
live_once state id one other here there =
    same_Some one other
    (sym (added state id one (from_filter (λ (entry : SiteCounter × Record). not (is_replaced state entry.0)) _ _ here).0)
    ∙ added state id other (from_filter (λ (entry : SiteCounter × Record). not (is_replaced state entry.0)) _ _ there).0)
