use Rattle.std.proofs.Common.{rules, ◌≡◌, Bool, false, cond, List}
use Rattle.stn_pddl.{specs.declared.tree.name.Name.Name, proofs.Terms.{parameter-twice, parameter-new}}
use Rattle.stn_pddl.proofs.fields.read_parameters.Goals as goal

kept : {was : Bool} (old : List Name) {now more : List Name} → was ≡ false → now ≡ cond was old more → now ≡ more
kept old is e = rw is at e

pub returns-then-not-is_new : goal.returns-then-not-is_new
returns-then-not-is_new g c = search (rules, parameter-twice)

pub parameters-preserved-in-Parameter : goal.parameters-preserved-in-Parameter
parameters-preserved-in-Parameter g c = search (rules, parameter-new)
