-- Contents that are made of lists of entries.
use Rattle.std.{proofs.{Common.{rules, ◌≡◌, ◌↔◌, ℕ, ◌<◌, length, Bool, true, not, ◌&&◌, eqb, List, get_or, Some, sym, ap, ◌∙◌, All}, lemmas.List.Elements.All-same}, specs.{FinMap.{get-entries, is_sorted, same_entries_map}, Cmp.tied_itself}}
use Rattle.std.specs.FinMap as fin
use Rattle.stn_records.{specs.{Id.{SiteCounter, id_cmp}, declared.record.{Record.Record, Mark.TheVariants.Plain}, Content.{RecordMap, Content, AllAmend, IsAmendment}, ContentLaws.{ids_total, ids_exact}}, proofs.{Gets.{entries_from_get, get_from_entries}, Entries.{in_order, find_at}}}

-- the entry at a place is what its id has
pub entry_at : (m : RecordMap) (es : List (SiteCounter × Record)) (place : ℕ) (e : SiteCounter × Record) → es ≡ fin.entries m → place < length es → e ≡ get_or es place e → fin.get m e.0 ≡ Some e.1
entry_at m es place e is within read =
    cc (get-entries m e.0, find_at ids_total es (ap (is_sorted id_cmp) is ∙ in_order m) e.0 place e within (ap (λ (f : SiteCounter × Record). id_cmp e.0 f.0) (sym read) ∙ tied_itself ids_total e.0))

-- contents with the same three parts are one
pub same_content : (s t : Content) → s.additions ≡ t.additions → s.tombstones ≡ t.tombstones → s.replacements ≡ t.replacements → s ≡ t
same_content s t p q r i = record { additions = p i; tombstones = q i; replacements = r i }

pub same_lists : (s t : Content) → fin.entries s.additions ≡ fin.entries t.additions → fin.entries s.tombstones ≡ fin.entries t.tombstones → fin.entries s.replacements ≡ fin.entries t.replacements → s ≡ t
same_lists s t p q r = same_content s t (same_entries_map _ _ p) (same_entries_map _ _ q) (same_entries_map _ _ r)

-- the entries of a content are amendments where those of the list are, and only there
pub amends_of_entries : (s : Content) (es : List (SiteCounter × SiteCounter)) → es ≡ fin.entries s.replacements → All (λ e. IsAmendment s.additions e.0 e.1) es → AllAmend s
amends_of_entries s es is all id old e = get_from_entries ids_total ids_exact s.replacements (λ e. IsAmendment s.additions e.0 e.1) (All-same (λ e. IsAmendment s.additions e.0 e.1) (fin.entries s.replacements) es (sym is) all) id old e

pub entries_of_amends : (s : Content) (es : List (SiteCounter × SiteCounter)) → es ≡ fin.entries s.replacements → AllAmend s → All (λ e. IsAmendment s.additions e.0 e.1) es
entries_of_amends s es is amends = All-same (λ e. IsAmendment s.additions e.0 e.1) es (fin.entries s.replacements) is (entries_from_get ids_total ids_exact s.replacements (λ e. IsAmendment s.additions e.0 e.1) amends)

-- whether an id of a Plain record and an old id make an amendment
pub amendment_told : (m : RecordMap) (id old : SiteCounter) (held : Record) → fin.get m id ≡ Some held → held.mark ≡ Plain → (b : Bool) → b ≡ not (eqb id.site old.site && eqb id.counter old.counter) → (b ≡ true) ↔ IsAmendment m id old
amendment_told m id old held there plain b is = (
  λ e. record {
    added = (held.bound, there ∙ ap Some (λ i. record { mark = plain i; bound = held.bound }));
    other = λ same. search rules;
  },
  λ a. let other = a.other in search rules,
)
