-- What each call leaves.
use Rattle.std.{proofs.{Common.{rules, ◌≡◌, ◌≢◌, ◌<◌, ◌≤◌, ◌↔◌, Bool, true, false, cond, List, Some, None, is_some, Equal, sym, refl, ap, subst, ◌∙◌, inl, inr, ⊎_elim, arith, Result, OnOk, OnErr, IsTrue, le_trans}, lemmas.Bool.{false≢true, or_right}}, specs.{FinMap.{get-empty, get-retain_keys}, Set.is_member}}
use Rattle.std.specs.FinMap as fin
use Rattle.stn_net.specs.Difference.{Difference}
use Rattle.stn_records.{specs.{Id.{SiteCounter, id_cmp, same_ids}, Record.{IsProper, IsProperRecord}, declared.record.Record.Record, MapLaws.{get-union, either_value}, ContentLaws.{ids_total, ids_exact}, Content.{most_known, dispute_contents, content_taken, IsSound, IsAmendment, AllAmend, part_of, RecordMap, Content, addition, known_count, known_in_either, is_known, is_replaced, joined_contents, no_content, plain, with_record, with_tombstone, with_amendment}}, proofs.{OneItem.{gone, inserted_value, inserted_here, kept_value}, Replaced.{items_back, replaced_by_withdrawal}, Proper.{empty_fits, insert_fits, union_fits, retain_fits, retained_value}, Limits.{together, record_limited, tombstone_limited, part_limited, empty_limited}}}

-- what a call leaves that changes all or nothing
pub left_by : {T E : Type 0} (result : Result T E) (P : Content → Type 0) (old new changed : Content) → OnOk result (new ≡ changed) → OnErr result (new ≡ old) → P old → P changed → P new
left_by result P old new changed is kept before after = search rules

-- an amendment stays one where a record is put in that is no other of its id
amends_kept : (m : RecordMap) (id : SiteCounter) (r : Record) → ((z : Record) → fin.get m id ≡ Some z → z ≡ r) → (q old : SiteCounter) → IsAmendment m q old → IsAmendment (fin.insert m id r) q old
amends_kept m id r agrees q old a = search (rules, kept_value)

-- which changes leave a sound content
pub empty_sound : IsSound no_content
empty_sound = record { proper = empty_fits IsProperRecord; amends = λ id old e. absurd (false≢true (ap is_some (sym (get-empty id_cmp id) ∙ e))); limited = empty_limited }

pub record_sound : (s : Content) (id : SiteCounter) (r : Record) → IsSound s → IsProper r.mark r.bound → ((z : Record) → fin.get s.additions id ≡ Some z → z ≡ r) → (is_known s id ≡ false → known_count s < most_known) → IsSound (with_record s id r)
record_sound s id r sound proper agrees room = record {
  proper = insert_fits IsProperRecord s.additions id r sound.proper proper;
  amends = λ q old e. amends_kept s.additions id r agrees q old (sound.amends q old e);
  limited = record_limited s id r room sound.limited;
}

pub tombstone_sound : (s : Content) (id : SiteCounter) → IsSound s → (is_known s id ≡ false → known_count s < most_known) → IsSound (with_tombstone s id)
tombstone_sound s id sound room = search (rules, tombstone_limited)

pub amendment_sound : (s : Content) (id old : SiteCounter) (bound : Difference) → IsSound s → id ≢ old → ((z : Record) → fin.get s.additions id ≡ Some z → z ≡ plain bound) → ((z : SiteCounter) → fin.get s.replacements id ≡ Some z → z ≡ old) → known_count (with_amendment s id old bound) ≤ most_known → IsSound (with_amendment s id old bound)
amendment_sound s id old bound sound apart agrees alike few = record {
  proper = insert_fits IsProperRecord s.additions id (plain bound) sound.proper tt;
  amends = λ q o e. ⊎_elim
      (λ here. record {
        added = (bound, ap (fin.get (fin.insert s.additions id (plain bound))) here.0 ∙ inserted_here s.additions id (plain bound));
        other = λ same. apart (sym here.0 ∙ same ∙ sym here.1);
      })
      (λ there. amends_kept s.additions id (plain bound) agrees q o (sound.amends q o there))
      (inserted_value s.replacements id old q o e);
  limited = few;
}

pub joined_sound : (s t all : Content) → IsSound s → IsSound t → dispute_contents s t ≡ None → known_in_either s t ≤ most_known → all ≡ joined_contents s t → IsSound all
joined_sound s t all p q none few is = subst IsSound (sym is) (record {
  proper = union_fits IsProperRecord s.additions t.additions p.proper q.proper;
  amends = λ id old e. ⊎_elim
      (λ h. let a = p.amends id old h in record { added = (a.added.0, items_back s t none (addition id (plain a.added.0)) (inl a.added.1)); other = a.other })
      (λ h. let a = q.amends id old h in record { added = (a.added.0, items_back s t none (addition id (plain a.added.0)) (inr a.added.1)); other = a.other })
      (either_value (fin.get s.replacements id) (fin.get t.replacements id) old (sym (get-union ids_total ids_exact s.replacements t.replacements id) ∙ e));
  limited = omega (arith, together s t none, few);
})

-- an entry that is kept is kept with its record
amends_part : (s : Content) (p : SiteCounter → Bool) → AllAmend s → (id old : SiteCounter) → fin.get (fin.retain_keys s.replacements p) id ≡ Some old → IsAmendment (fin.retain_keys s.additions p) id old
amends_part s p amends id old e =
    let a = amends id old (retained_value s.replacements p id old e) in
    record { added = (a.added.0, kept (p id) refl (sym (get-retain_keys s.replacements p id alike) ∙ e) ∙ a.added.1); other = a.other }
  where
    alike : (k : SiteCounter) → id_cmp id k ≡ Equal → p k ≡ p id
    alike k t = ap p (sym (ids_exact id k t))

    kept : (b : Bool) → p id ≡ b → cond (p id) (fin.get s.replacements id) None ≡ Some old → fin.get (fin.retain_keys s.additions p) id ≡ fin.get s.additions id
    kept true is f = get-retain_keys s.additions p id alike ∙ ap (λ b. cond b (fin.get s.additions id) None) is
    kept false is f = absurd (false≢true (ap is_some (sym (ap (λ b. cond b (fin.get s.replacements id) None) is) ∙ f)))

pub part_sound : (s part : Content) (records tombstones : List SiteCounter) → IsSound s → part ≡ part_of s records tombstones → IsSound part
part_sound s part records tombstones sound is =
    let few = part_limited s records tombstones in
    let most = sound.limited in
    subst IsSound (sym is) (record {
      proper = retain_fits IsProperRecord s.additions (λ id. is_member same_ids records id) sound.proper;
      amends = amends_part s (λ id. is_member same_ids records id) sound.amends;
      limited = le_trans few most;
    })

-- a replaced id is known
pub known_by_replaced : (s : Content) (id : SiteCounter) → is_replaced s id ≡ true → is_known s id ≡ true
known_by_replaced s id e = or_right _ _ e

pub known_by_tombstone : (s : Content) (id : SiteCounter) → fin.contains_key s.tombstones id ≡ true → is_known s id ≡ true
known_by_tombstone s id e = search (rules, replaced_by_withdrawal, gone)

pub no_room_needed : (s : Content) (id : SiteCounter) → is_known s id ≡ true → is_known s id ≡ false → known_count s < most_known
no_room_needed s id known unknown = cc

-- where not the most ids are known, there is room
pub room_left : (s : Content) (full : Bool) → (IsTrue full ↔ (known_count s ≡ most_known)) → known_count s ≤ most_known → full ≡ false → known_count s < most_known
room_left s full is most spare = search rules

-- where a test says that two contents don't know too much together
pub not_too_much : (s t : Content) (b : Bool) → (IsTrue b ↔ (most_known < known_in_either s t)) → b ≡ false → known_in_either s t ≤ most_known
not_too_much s t b tells f = search rules

-- a join that knows too much is refused
pub too_many : (s t : Content) → dispute_contents s t ≡ None → most_known < known_in_either s t → content_taken s t ≡ None
too_many s t none many = search (rules, together)

-- and one within the limit is what a take leaves
pub taken_is : (s t all : Content) → dispute_contents s t ≡ None → known_in_either s t ≤ most_known → all ≡ joined_contents s t → content_taken s t ≡ Some all
taken_is s t all none few is = search (rules, together)
