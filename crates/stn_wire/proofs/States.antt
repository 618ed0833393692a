-- The bytes of a state.
use Rattle.std.{proofs.Common.{rules, ◌≡◌, ◌≢◌, ◌==◌, ℕ, ◌+◌, ◌*◌, ◌≤◌, Bool, true, false, List, [], ◌∷◌, ◌++◌, length, Option, Some, None, Result, Ok, Err, IfSome, IfOk, refl, sym, ap, subst, ◌∙◌, arith, append-nil, length-append}, specs.{FinMap.entries, List.flat_map}}
use Rattle.stn_records.{specs.{Id.SiteCounter, declared.record.Record.Record, Content.{Content, IsSound}}, proofs.Limits.{additions_within, tombstones_within, replacements_within}}
use Rattle.stn_wire.{specs.{Spelling.{entry_bytes, IsEntry, entry_width, tomb_bytes, IsTomb, amendment_bytes, amendments_bytes, AreIds, counted, AreCounted}, Apart.{entry_apart, entry_sized, tomb_apart, amendment_apart}, declared.layout.Layout.Layout, Frame.{records, body_of, state_bytes, most_body}, Reading.{IsReadFrom, AreEntries, IsStateWith, counted_then, entries_then}}, proofs.Chunks.{length-flat_map, counted_cut}}

-- an entry of an amendment
abbrev pub Entry : Type 0
Entry = SiteCounter × SiteCounter

-- a sound state has few entries
pub few_entries : (s : Content) → IsSound s → (length (entries s.additions) ≤ 4096) × (length (entries s.tombstones) ≤ 4096) × (length (entries s.replacements) ≤ 4096)
few_entries s sound = omega (arith, additions_within, tombstones_within, replacements_within)

-- how many bytes entries have
pub amendments_long : (entry : Entry) (rest : List Entry) → length (amendments_bytes (entry ∷ rest)) ≡ 2 + length (entry ∷ rest) * 8
amendments_long entry rest = omega (arith, length-flat_map AreIds amendment_bytes 8 (λ _. refl) (entry ∷ rest))

pub amendments_short : (l : List Entry) → length (amendments_bytes l) ≤ 2 + length l * 8
amendments_short [] = omega arith
amendments_short (entry ∷ rest) = search (rules, amendments_long)

pub amendments_sized : (l : List Entry) → (length l == 0) ≡ false → length (amendments_bytes l) ≡ 2 + length l * 8
amendments_sized [] some = absurd cc
amendments_sized (entry ∷ rest) some = amendments_long entry rest

-- how many bytes a state has
pub length-state_bytes : (layout : Layout) (s : Content) → length (state_bytes layout s) ≡ 4 + length (entries s.additions) * entry_width layout + length (entries s.tombstones) * 4 + length (amendments_bytes (entries s.replacements))
length-state_bytes layout s =
    omega (arith, length-append (flat_map (entry_bytes layout) (entries s.additions)) (counted tomb_bytes (entries s.tombstones) ++ amendments_bytes (entries s.replacements)), length-append (flat_map tomb_bytes (entries s.tombstones)) (amendments_bytes (entries s.replacements)), length-flat_map (IsEntry layout) (entry_bytes layout) (entry_width layout) (entry_sized layout) (entries s.additions), length-flat_map IsTomb tomb_bytes 4 (λ _. refl) (entries s.tombstones))

-- so its frame is never too long
pub state_fits : (s : Content) → IsSound s → length (body_of (records s)) ≤ most_body
state_fits s sound = omega (arith, length-state_bytes, few_entries, amendments_short)

-- ---- entries

pub entries_counted : (amended : Bool) (l : List Entry) → AreEntries amended l → AreCounted AreIds l
entries_counted amended l are = search rules

entries_cut : (amended : Bool) (l m : List Entry) (x y : List ℕ) → AreEntries amended l → AreEntries amended m → amendments_bytes l ++ x ≡ amendments_bytes m ++ y → (l ≡ m) × (x ≡ y)
entries_cut false [] [] x y p q e = (refl, e)
entries_cut false [] (m ∷ ms) x y p q e = absurd cc
entries_cut false (l ∷ ls) m x y p q e = absurd cc
entries_cut true [] m x y p q e = absurd (p.0 refl)
entries_cut true (l ∷ ls) [] x y p q e = absurd (q.0 refl)
entries_cut true (l ∷ ls) (m ∷ ms) x y p q e = counted_cut AreIds amendment_bytes 8 (λ _. refl) amendment_apart (l ∷ ls) (m ∷ ms) x y p.1 q.1 e

-- ---- reading a state: its additions, its tombstones, its entries, and nothing after them

abbrev pub Addition : Type 0
Addition = SiteCounter × Record

abbrev pub Tombstone : Type 0
Tombstone = SiteCounter × Unit {0}

module _ (layout : Layout) (amended : Bool) (bytes : List ℕ) where
  pub no_additions : IsReadFrom {V = List Addition × List ℕ} (λ found. AreCounted (IsEntry layout) found.0) (counted_then (entry_bytes layout)) bytes None → (s : Content) → IsStateWith layout amended s → bytes ≢ state_bytes layout s
  no_additions none s has is = none (entries s.additions, counted tomb_bytes (entries s.tombstones) ++ amendments_bytes (entries s.replacements)) has.said.additions is

  module _ (xs : List Addition) (rest : List ℕ) (first : IsReadFrom {V = List Addition × List ℕ} (λ found. AreCounted (IsEntry layout) found.0) (counted_then (entry_bytes layout)) bytes (Some (xs, rest))) where
    behind_additions : (s : Content) → IsStateWith layout amended s → bytes ≡ state_bytes layout s → (xs ≡ entries s.additions) × (rest ≡ counted tomb_bytes (entries s.tombstones) ++ amendments_bytes (entries s.replacements))
    behind_additions s has is =
        counted_cut (IsEntry layout) (entry_bytes layout) (entry_width layout) (entry_sized layout) (entry_apart layout) xs (entries s.additions) rest (counted tomb_bytes (entries s.tombstones) ++ amendments_bytes (entries s.replacements)) first.0 has.said.additions (sym first.1 ∙ is)

    pub no_tombstones : IsReadFrom {V = List Tombstone × List ℕ} (λ found. AreCounted IsTomb found.0) (counted_then tomb_bytes) rest None → (s : Content) → IsStateWith layout amended s → bytes ≢ state_bytes layout s
    no_tombstones none s has is = none (entries s.tombstones, amendments_bytes (entries s.replacements)) has.said.tombstones (behind_additions s has is).1

    module _ (ts : List Tombstone) (left : List ℕ) (second : IsReadFrom {V = List Tombstone × List ℕ} (λ found. AreCounted IsTomb found.0) (counted_then tomb_bytes) rest (Some (ts, left))) where
      behind_tombstones : (s : Content) → IsStateWith layout amended s → bytes ≡ state_bytes layout s → (ts ≡ entries s.tombstones) × (left ≡ amendments_bytes (entries s.replacements))
      behind_tombstones s has is =
          counted_cut IsTomb tomb_bytes 4 (λ _. refl) tomb_apart ts (entries s.tombstones) left (amendments_bytes (entries s.replacements)) second.0 has.said.tombstones (sym second.1 ∙ (behind_additions s has is).1)

      pub no_entries : IsReadFrom {V = List Entry × List ℕ} (λ found. AreEntries amended found.0) entries_then left None → (s : Content) → IsStateWith layout amended s → bytes ≢ state_bytes layout s
      no_entries none s has is = none (entries s.replacements, []) has.entries ((behind_tombstones s has is).1 ∙ sym (append-nil _))

      module _ (es : List Entry) (end : List ℕ) (third : IsReadFrom {V = List Entry × List ℕ} (λ found. AreEntries amended found.0) entries_then left (Some (es, end))) where
        behind_entries : (s : Content) → IsStateWith layout amended s → bytes ≡ state_bytes layout s → (es ≡ entries s.replacements) × (end ≡ [])
        behind_entries s has is = entries_cut amended es (entries s.replacements) end [] third.0 has.entries (sym third.1 ∙ (behind_tombstones s has is).1 ∙ sym (append-nil _))

        pub something_left : end ≢ [] → (s : Content) → IsStateWith layout amended s → bytes ≢ state_bytes layout s
        something_left more s has is = more (behind_entries s has is).1

        pub lists_read : {E : Type 0} → end ≡ [] → (o : Result (Option Content) E) → IfOk o (λ made. IfSome made (λ s. entries s.additions ≡ xs)) → IfOk o (λ made. IfSome made (λ s. entries s.tombstones ≡ ts))
            → IfOk o (λ made. IfSome made (λ s. entries s.replacements ≡ es)) → IfOk o (λ made. IfSome made IsSound)
            → ((s : Content) → IsSound s → entries s.additions ≡ xs → entries s.tombstones ≡ ts → entries s.replacements ≡ es → IfOk o (λ made. made ≡ Some s)) → IfOk o (IsReadFrom (IsStateWith layout amended) (state_bytes layout) bytes)
        lists_read none (Ok (Some made)) additions tombstones replacements sound all = (
          record {
            said = record {
              sound = sound;
              additions = subst (AreCounted (IsEntry layout)) (sym additions) first.0;
              tombstones = subst (AreCounted IsTomb) (sym tombstones) second.0;
              replacements = subst (AreCounted AreIds) (sym replacements) (entries_counted amended es third.0);
            };
            entries = subst (AreEntries amended) (sym replacements) third.0;
          },
          first.1 ∙ ap (λ l. counted (entry_bytes layout) xs ++ l) (second.1 ∙ ap (λ l. counted tomb_bytes ts ++ l) (third.1 ∙ ap (λ l. amendments_bytes es ++ l) none ∙ append-nil _))
              ∙ (λ i. counted (entry_bytes layout) (sym additions i) ++ (counted tomb_bytes (sym tombstones i) ++ amendments_bytes (sym replacements i))),
        )
        lists_read none (Ok None) additions tombstones replacements sound all = λ s has is.
            let found = all s has.said.sound (sym (behind_additions s has is).0) (sym (behind_tombstones s has is).0) (sym (behind_entries s has is).0) in
            absurd cc
        lists_read none (Err fault) additions tombstones replacements sound all = tt
