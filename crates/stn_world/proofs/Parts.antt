-- Whether a state is part of another, and the parts that are sent.
use Rattle.std.{proofs.{Common.{rules, ◌≡◌, Bool, true, false, cond, List, Option, Some, None, is_some, sym, refl, ap, ◌∙◌, All}, lemmas.Bool.{false≢true, Decides.{Decides-by_and, Decides-and, Decides-like}}}, specs.{Prelude.IsTrue, Bool.Decides, List.list_all, Option.option_eq, Set.is_member, FinMap.get-retain_keys}}
use Rattle.std.specs.FinMap as fin
use Rattle.stn_records.{specs.{Id.{SiteCounter, id_cmp, same_ids}, declared.record.Record.Record, Content.{Content, addition, withdrawal, replacement, HasItem, AllHeld, AllAmend, part_of, plain, IsPart}, ContentLaws.{ids_total, ids_exact, ids_decide, records_decide}}, proofs.{Proper.retained_value, Gets.{entries_from_get, get_from_entries}}}
use Rattle.stn_world.specs.Parts.{has_whole_record, is_part, holds_all}

-- a test of values decides whether options are the same
options_decide : {X : Type 0} {same : X → X → Bool} → ((x y : X) → Decides (same x y) (x ≡ y)) → {o p : Option X} → Decides (option_eq same o p) (o ≡ p)
options_decide decides = search rules

key_decides : {X : Type 0} {o : Option X} → Decides (is_some o) ((x : X) × (o ≡ Some x))
key_decides = search rules

gone_decides : {o : Option (Unit {0})} {u : Unit {0}} → Decides (is_some o) (o ≡ Some u)
gone_decides = search rules

-- what may be sent of a whole: its records with their entries, and its withdrawn ids
pub record IsSentOf (part whole : Content) : Type 0 where
  pub records : (id : SiteCounter) (one : Record) → HasItem part (addition id one) → HasItem whole (addition id one) × (fin.get part.replacements id ≡ fin.get whole.replacements id)
  pub entries : (id old : SiteCounter) → HasItem part (replacement id old) → (one : Record) × HasItem part (addition id one)
  pub tombstones : (id : SiteCounter) → HasItem part (withdrawal id) → HasItem whole (withdrawal id)

module _ (part whole : Content) where
  IsWholes : SiteCounter × Record → Type 0
  IsWholes entry = (fin.get whole.additions entry.0 ≡ Some entry.1) × (fin.get part.replacements entry.0 ≡ fin.get whole.replacements entry.0)

  IsOfRecord : SiteCounter × SiteCounter → Type 0
  IsOfRecord entry = (one : Record) × (fin.get part.additions entry.0 ≡ Some one)

  IsGone : SiteCounter × Unit {0} → Type 0
  IsGone entry = fin.get whole.tombstones entry.0 ≡ Some entry.1

  wholes_decide : (entry : SiteCounter × Record) → Decides (has_whole_record part whole entry) (IsWholes entry)
  unfolding IsWholes
  wholes_decide entry = Decides-and _ _
      (options_decide records_decide)
      (options_decide ids_decide)

  -- the test of a part tells whether it may be sent
  pub part_decides : Decides (is_part part whole) (IsSentOf part whole)
  unfolding IsWholes IsOfRecord IsGone
  part_decides =
      let records = Decides-by_and (has_whole_record part whole) IsWholes (list_all (has_whole_record part whole)) wholes_decide refl (λ _ _. refl) (fin.entries part.additions) in
      let entries = Decides-by_and (λ (entry : SiteCounter × SiteCounter). fin.contains_key part.additions entry.0) IsOfRecord
      (list_all (λ (entry : SiteCounter × SiteCounter). fin.contains_key part.additions entry.0)) (λ entry. key_decides) refl (λ _ _. refl) (fin.entries part.replacements) in
      let gone = Decides-by_and (λ (entry : SiteCounter × Unit {0}). fin.contains_key whole.tombstones entry.0) IsGone
      (list_all (λ (entry : SiteCounter × Unit {0}). fin.contains_key whole.tombstones entry.0)) (λ entry. gone_decides) refl (λ _ _. refl) (fin.entries part.tombstones) in
      Decides-like _ (λ all. told all.0.0 all.0.1 all.1) (λ is. ((held is, of_records is), withdrawn is)) (Decides-and _ _ (Decides-and _ _ records entries) gone)
    where
      told : All IsWholes (fin.entries part.additions) → All IsOfRecord (fin.entries part.replacements) → All IsGone (fin.entries part.tombstones) → IsSentOf part whole
      told records entries gone = record {
        records = λ id one there. get_from_entries ids_total ids_exact part.additions IsWholes records id one there;
        entries = λ id old there. get_from_entries ids_total ids_exact part.replacements IsOfRecord entries id old there;
        tombstones = λ id there. get_from_entries ids_total ids_exact part.tombstones IsGone gone id tt there;
      }

      held : IsSentOf part whole → All IsWholes (fin.entries part.additions)
      held is = entries_from_get ids_total ids_exact part.additions IsWholes is.records

      of_records : IsSentOf part whole → All IsOfRecord (fin.entries part.replacements)
      of_records is = entries_from_get ids_total ids_exact part.replacements IsOfRecord is.entries

      withdrawn : IsSentOf part whole → All IsGone (fin.entries part.tombstones)
      withdrawn is = entries_from_get ids_total ids_exact part.tombstones IsGone (λ id u there. is.tombstones id there)

  -- the whole has what is sent
  pub sent_inside : IsSentOf part whole → IsPart part whole
  sent_inside is h there = search rules

-- where a map was cut to some keys
kept_key : {X : Type 0} (m : fin.FinMap id_cmp X) (p : SiteCounter → Bool) {id : SiteCounter} {x : X} → fin.get (fin.retain_keys m p) id ≡ Some x → p id ≡ true
kept_key m p {id} {x} e = passed (p id) (fin.get m id) (sym (get-retain_keys m p id (λ k t. ap p (sym (ids_exact id k t)))) ∙ e)
  where
    passed : (b : Bool) (o : Option _) → cond b o None ≡ Some x → b ≡ true
    passed true o f = refl
    passed false o f = absurd (false≢true (ap is_some f))

kept_value : {X : Type 0} (m : fin.FinMap id_cmp X) (p : SiteCounter → Bool) {id : SiteCounter} → p id ≡ true → fin.get (fin.retain_keys m p) id ≡ fin.get m id
kept_value m p {id} e = cc (get-retain_keys m p id (λ k t. ap p (sym (ids_exact id k t))))

-- so may the records of a list with their entries, and the withdrawn ids of another
pub part_sent : {content : Content} (records tombstones : List SiteCounter) → AllAmend content → IsSentOf (part_of content records tombstones) content
part_sent {content} records tombstones amends = record {
  records = λ id one there. (retained_value content.additions named id one there, kept_value content.replacements named (kept_key content.additions named there));
  entries = λ id old there.
      let amended = amends id old (retained_value content.replacements named id old there) in
      (plain amended.added.0, kept_value content.additions named (kept_key content.replacements named there) ∙ amended.added.1);
  tombstones = λ id there. retained_value content.tombstones (λ other. is_member same_ids tombstones other) id tt there;
}
  where
    named : SiteCounter → Bool
    named id = is_member same_ids records id

holds_decides : {X : Type 0} (m : fin.FinMap id_cmp X) (ids : List SiteCounter) → Decides (list_all (λ id. fin.contains_key m id) ids) (AllHeld m ids)
holds_decides m ids = Decides-by_and (λ id. fin.contains_key m id) (λ id. IsTrue (fin.contains_key m id)) (list_all (λ id. fin.contains_key m id)) (λ id. (λ e. e, λ e. e)) refl (λ _ _. refl) ids

-- the test of what is held tells whether all is
pub holds_all-decides : (content : Content) (records tombstones : List SiteCounter) → Decides (holds_all content records tombstones) (AllHeld content.additions records × AllHeld content.tombstones tombstones)
holds_all-decides content records tombstones = search (rules, Decides-and, holds_decides)
