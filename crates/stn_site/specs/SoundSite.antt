use Rattle.std.specs.Prelude.{All}
use Rattle.stn_net.specs.Difference.{IsBoundWithin}
use Rattle.stn_lift.specs.PlanSource.{events_of, IsSoundSource}
use Rattle.stn_records.specs.Content.{AllProper}
use Rattle.stn_site.specs.{Bounds.live_bounds, Held.Held}

-- what is true of each site: its plan has a base, its live records are of bounds of the plan, and each record that says that an event was
-- executed fixes its time
pub record IsSoundSite (held : Held) : Type 0 where
  pub based : IsSoundSource held.source
  pub live : All (IsBoundWithin (events_of held.source)) (live_bounds held.state)
  pub proper : AllProper held.state.additions
