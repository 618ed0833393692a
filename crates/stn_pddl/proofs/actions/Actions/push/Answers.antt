use Rattle.std.proofs.{Common.{arith, ◌∙◌, ap, ◌++◌, ◌∷◌, []}, lemmas.{List.map-append, Result.IfOk-weaker}}
use Rattle.stn_pddl.{specs.Views.{entries_schema, action_schema}, proofs.ActionMaps.{absent, AreNamed-inserted}}
use Rattle.stn_pddl.proofs.actions.Actions.push.Goals as goal

pub insert_new-requires : goal.insert_new-requires
unfolding action_schema
insert_new-requires g c = absent c.args.action.name c.self.inside.by_name.entries c.self.invariant c.self.view_is c.requires

pub invariant_of-self : goal.invariant_of-self
unfolding action_schema
invariant_of-self g c = grind (arith, AreNamed-inserted)

pub returns : goal.returns
returns g c = IfOk-weaker c.insert_new.result _ _ (λ _ is.
    ap entries_schema is
    ∙ map-append (λ e. action_schema e.1) c.self.inside.by_name.entries ((c.args.action.name, c.args.action) ∷ [])
    ∙ ap (λ actions. actions ++ action_schema c.args.action ∷ []) c.self.view_is) c.insert_new.ensures.added
