use Rattle.stn_world.specs.{World.opening_world, Steps.run}
use Rattle.stn_laws.{specs.Runs.HasEntries, proofs.worlds.Entries.{each_state, entire_run}}
use Rattle.stn_laws.proofs.worlds.amendments_are_whole.Goals as goal

pub returns : goal.returns
returns c = λ source sites steps.
    let now = run (opening_world source sites) steps in
    let entire = entire_run source sites steps in
    each_state (HasEntries now) now entire.sites entire.packets
