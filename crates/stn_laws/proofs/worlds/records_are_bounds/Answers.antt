use Rattle.stn_lift.specs.PlanSource.{events_of}
use Rattle.stn_records.specs.{Id.SiteCounter, Content.{Content, addition, HasItem}, declared.record.Record.Record}
use Rattle.stn_world.{specs.{World.{opening_world, IsRecordOf}, Steps.run}, proofs.Whole.coherent_at_first}
use Rattle.stn_laws.proofs.worlds.{Entries.each_state, Runs.coherent_run}
use Rattle.stn_laws.proofs.worlds.records_are_bounds.Goals as goal

pub returns : goal.returns
returns c = λ source sites steps.
    let now = run (opening_world source sites) steps in
    let (all, whole) = coherent_run (opening_world source sites) steps (coherent_at_first source sites) in
    each_state (λ (state : Content). (id : SiteCounter) (one : Record) → HasItem state (addition id one) → IsRecordOf (events_of now.source) one) now
    (λ site id one there. whole.records id one (whole.sites site (addition id one) there))
    (λ number id one there. whole.records id one (whole.packets number (addition id one) there))
