use Rattle.std.specs.Prelude.{◌≡◌, ◌+◌, ◌≤◌, true, length}
use Rattle.stn_net.specs.Schedule.{HasSchedule}
use Rattle.stn_records.specs.{Id.SiteCounter, Content.Content}
use Rattle.stn_site.specs.{Bounds.all_bounds, Growth.{is_risen, risen, KeepsLive}, Held.Held}

-- some record has become live
abbrev pub GainsLive : Content → Content → Type 0
GainsLive old new = (id : SiteCounter) × (is_risen old new id ≡ true)

-- where no live record has stopped being live and all bounds have a schedule, the steps have not fallen, and have risen
-- by no more than the number of records that have become live
abbrev pub SparesWork : Held → Held → Type 0
SparesWork old new = KeepsLive old.state new.state → HasSchedule (all_bounds new.source new.state)
    → (old.steps ≤ new.steps) × (new.steps ≤ old.steps + length (risen old.state new.state))
