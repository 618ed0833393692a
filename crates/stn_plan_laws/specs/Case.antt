-- A domain in small letters.
use Rattle.std.specs.Prelude.{List, map, Result}
use Rattle.stn_pddl.specs.{Tree.Names.folded, declared.fault.DomainFault.DomainFault, Schemas.{TermSchema, Parameter, Constant, AtomSchema, ActionSchema}}
use Rattle.stn_plan_laws.specs.Tree.Case.{mapped}

abbrev pub term_in_small : TermSchema → TermSchema
term_in_small (Parameter place) = Parameter place
term_in_small (Constant word) = Constant (folded word)

abbrev pub atom_in_small : AtomSchema → AtomSchema
atom_in_small atom = record { predicate = folded atom.predicate; terms = map term_in_small atom.terms }

-- the same action, with small letters for the capital ones of ASCII in each name
unfoldable pub action_in_small : ActionSchema → ActionSchema
action_in_small action = record {
  name = folded action.name;
  parameters = map folded action.parameters;
  duration = action.duration;
  start_needs = map atom_in_small action.start_needs;
  all_needs = map atom_in_small action.all_needs;
  end_needs = map atom_in_small action.end_needs;
  start_adds = map atom_in_small action.start_adds;
  start_deletes = map atom_in_small action.start_deletes;
  end_adds = map atom_in_small action.end_adds;
  end_deletes = map atom_in_small action.end_deletes;
}

-- the actions in small letters, or the same fault
abbrev pub domain_in_small : Result (List ActionSchema) DomainFault → Result (List ActionSchema) DomainFault
domain_in_small = mapped (map action_in_small)
