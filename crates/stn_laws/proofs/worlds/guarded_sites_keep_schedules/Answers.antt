use Rattle.stn_world.{specs.{World.opening_world, Steps.run}, proofs.Whole.coherent_at_first}
use Rattle.stn_laws.proofs.worlds.{Runs.coherent_run, Guarded.{run_guarded, guarded_schedules}}
use Rattle.stn_laws.proofs.worlds.guarded_sites_keep_schedules.Goals as goal

pub returns : goal.returns
returns c = λ source sites before owner state holds steps own each.
    let start = run (opening_world source sites) before in
    let coherent = coherent_run (opening_world source sites) before (coherent_at_first source sites) in
    guarded_schedules owner state (run start steps) (coherent_run start steps coherent) (run_guarded owner state start steps coherent holds own) each
