use Rattle.std.proofs.Common.{rules}
use Rattle.stn_pddl.specs.Tree.Names.{is_same_word}
use Rattle.stn_lift.{specs.AtomViews.folded_name, proofs.{Numbered.{different, stored_at, kept_at}, NumberedAtoms.names_decide}}
use Rattle.stn_lift.proofs.atoms.Atoms.number_name.Goals as goal

pub invariant_of-self-2 : goal.invariant_of-self-2
invariant_of-self-2 g c = search (rules, different, names_decide)

pub returns : goal.returns
returns g c = record {
  number = stored_at (λ a b. is_same_word a.bytes.now b.bytes.now) folded_name names_decide c.insert_full.new.self.keys c.args.name c.in_ok-number.number c.in_ok-number.ensures.stored;
  kept = rw (← c.self.view_is) (record {
    names = kept_at (λ a b. is_same_word a.bytes.now b.bytes.now) folded_name names_decide c.self.inside.names.keys c.args.name c.in_ok-number.ensures.keys;
    spellings = λ number spelling there. there;
  });
}
