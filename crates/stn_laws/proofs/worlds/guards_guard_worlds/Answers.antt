use Rattle.stn_world.{specs.{World.opening_world, Steps.run}, proofs.Whole.coherent_at_first}
use Rattle.stn_laws.proofs.worlds.{Runs.coherent_run, GuardSteps.guarded_world}
use Rattle.stn_laws.proofs.worlds.guards_guard_worlds.Goals as goal

pub returns : goal.returns
returns c = λ source sites steps sound site owned ids new adds world same alone.
    let now = run (opening_world source sites) steps in
    guarded_world now (coherent_run (opening_world source sites) steps (coherent_at_first source sites)) sound site owned ids new adds world same alone
