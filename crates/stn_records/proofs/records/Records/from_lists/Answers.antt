use Rattle.std.proofs.{Common.{◌≤◌, sym, subst, ◌∙◌, arith}, lemmas.Bool.false≢true}
use Rattle.stn_records.{specs.Content.{Content, AllProper, IsSound, most_known}, proofs.{Lists.same_lists, records.Records.from_lists.Goals.{then-not-all_amend-via-then-not-all_amend, then-not-all_amend-via-else-not-all_amend+then-known-gt-MOST_KNOWN}}}
use Rattle.stn_records.proofs.records.Records.from_lists.Goals as goal

-- what is refused is not sound
pub returns-then-not-all_amend-clause-all : goal.returns-then-not-all_amend-clause-all
returns-then-not-all_amend-clause-all g c s sound p q r =
    let made : Content = record { additions = c.in-Some.additions; tombstones = c.in-Some-from_entries.tombstones; replacements = c.in-Some-from_entries-2.replacements } in
    absurd (elim c.then-not-all_amend.branch as (λ b. IsSound c.in_ok-state.state → ⊥) [
      | then-not-all_amend-via-then-not-all_amend w ↦ λ kept. false≢true (sym w.if-not-all_amend.true ∙ c.all_amend.ensures.1 kept.amends)
      | then-not-all_amend-via-else-not-all_amend+then-known-gt-MOST_KNOWN w ↦ λ kept. omega (arith, kept.limited, w.known.ensures, w.if-known-gt-MOST_KNOWN.true)
    ] (subst IsSound (sym (c.in_ok-state.ensures ∙ same_lists made s (c.in-Some.ensures.made ∙ sym p) (c.in-Some-from_entries.ensures.made ∙ sym q) (c.in-Some-from_entries-2.ensures.made ∙ sym r))) sound))

pub invariant_of-result : goal.invariant_of-result
invariant_of-result g c = record {
  proper = subst (λ (t : Content). AllProper t.additions) (sym c.in_ok-state.ensures) c.in-Some.ensures.fit;
  amends = c.all_amend.ensures.0 c.if-not-all_amend.false;
  limited = subst (λ n. n ≤ most_known) c.known.ensures c.if-known-gt-MOST_KNOWN.false;
}

pub returns-clause-sound : goal.returns-clause-sound
returns-clause-sound g c = invariant_of-result g c
