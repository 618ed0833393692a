-- Frames with the same bodies are one.
use Rattle.std.{proofs.Common.{rules, ◌≡◌, List, [], ◌∷◌, ◌++◌, drop, refl, sym, ap, ◌∙◌, append-nil}, specs.FinMap.{entries, same_entries_map}}
use Rattle.stn_lift.specs.PlanSource.{PlanSource}
use Rattle.stn_records.specs.{Id.SiteCounter, Content.Content}
use Rattle.stn_wire.{specs.{Spelling.{entry_bytes, IsEntry, entry_width, tomb_bytes, IsTomb, amendment_bytes, amendments_bytes, AreIds, counted, AreCounted}, Apart.{entry_apart, entry_sized, tomb_apart, amendment_apart}, declared.layout.Layout.Layout, Frame.{FrameContent, old_hello, old_records, hello, records, source_bytes, IsSaidSource, state_bytes, IsState, HasSpelling, body_of}}, proofs.Chunks.{counted_cut, measured_cut}}

pub source_apart : (a b : PlanSource) → IsSaidSource a → IsSaidSource b → source_bytes a ≡ source_bytes b → a ≡ b
source_apart a b p q e = search (rules, measured_cut)

-- lists of entries with the same bytes are one
amendments_apart : (l m : List (SiteCounter × SiteCounter)) → AreCounted AreIds l → AreCounted AreIds m → amendments_bytes l ≡ amendments_bytes m → l ≡ m
amendments_apart [] [] p q e = refl
amendments_apart [] (m ∷ ms) p q e = absurd cc
amendments_apart (l ∷ ls) [] p q e = absurd cc
amendments_apart (l ∷ ls) (m ∷ ms) p q e =
    (counted_cut AreIds amendment_bytes 8 (λ _. refl) amendment_apart (l ∷ ls) (m ∷ ms) [] [] p q (append-nil _ ∙ e ∙ sym (append-nil _))).0

pub state_apart : (layout : Layout) (a b : Content) → IsState layout a → IsState layout b → state_bytes layout a ≡ state_bytes layout b → a ≡ b
state_apart layout a b p q e =
    let first = counted_cut (IsEntry layout) (entry_bytes layout) (entry_width layout) (entry_sized layout) (entry_apart layout) (entries a.additions) (entries b.additions)
    (counted tomb_bytes (entries a.tombstones) ++ amendments_bytes (entries a.replacements)) (counted tomb_bytes (entries b.tombstones) ++ amendments_bytes (entries b.replacements)) p.additions q.additions e in
    let second = counted_cut IsTomb tomb_bytes 4 (λ _. refl) tomb_apart (entries a.tombstones) (entries b.tombstones) (amendments_bytes (entries a.replacements)) (amendments_bytes (entries b.replacements)) p.tombstones q.tombstones first.1 in
    let additions = same_entries_map a.additions b.additions first.0 in
    let tombstones = same_entries_map a.tombstones b.tombstones second.0 in
    let replacements = same_entries_map a.replacements b.replacements (amendments_apart (entries a.replacements) (entries b.replacements) p.replacements q.replacements second.1) in
    λ i. record { additions = additions i; tombstones = tombstones i; replacements = replacements i }

pub body_apart : (f g : FrameContent) → HasSpelling f → HasSpelling g → body_of f ≡ body_of g → f ≡ g
body_apart (old_hello a) (old_hello b) p q e = cc (source_apart a b p q (ap (drop 1) e))
body_apart (old_records a) (old_records b) p q e = search (rules, state_apart)
body_apart (hello a) (hello b) p q e = cc (source_apart a b p q (ap (drop 1) e))
body_apart (records a) (records b) p q e = search (rules, state_apart)
body_apart (records a) g p q e = search rules
body_apart f (records b) p q e = search rules
body_apart f g p q e = cc
