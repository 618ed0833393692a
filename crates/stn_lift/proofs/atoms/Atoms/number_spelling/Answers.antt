use Rattle.std.{proofs.Common.{rules, nat_eq}, specs.Cmp.Lexicographic.pointwise}
use Rattle.stn_lift.{specs.AtomViews.spelling_of, proofs.{Numbered.{different, stored_at, kept_at}, NumberedAtoms.spellings_decide}}
use Rattle.stn_lift.proofs.atoms.Atoms.number_spelling.Goals as goal

pub invariant_of-self-2 : goal.invariant_of-self-2
invariant_of-self-2 g c = search (rules, different)

pub returns : goal.returns
returns g c = record {
  number = stored_at (λ a b. pointwise nat_eq a.items b.items) spelling_of spellings_decide c.insert_full.new.self.keys c.args.spelling c.in_ok-number.number c.in_ok-number.ensures.stored;
  kept = rw (← c.self.view_is) (record {
    names = λ number name there. there;
    spellings = kept_at (λ a b. pointwise nat_eq a.items b.items) spelling_of spellings_decide c.self.inside.spellings.keys c.args.spelling c.in_ok-number.ensures.keys;
  });
}
