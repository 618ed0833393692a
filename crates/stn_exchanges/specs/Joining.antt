-- What a log says by now, taken in by a site of its plan, and saved.
use Rattle.std.specs.Prelude.{◌≡◌, true, false, Option, Some, None, Ok, Err}
use Rattle.stn_effects.specs.Effects.{Effect, Then, Finds, Makes, Gives}
use Rattle.stn_lift.specs.PlanSource.{PlanSource}
use Rattle.stn_records.specs.Content.{Content, join_contents}
use Rattle.stn_site.specs.Held.{Held, holding_state}
use Rattle.stn_store.specs.{Merging.IsMergeRefusal, Steps.{Entries, Saves}, Store.{IsThere, Opens, IsUnopened}}
use Rattle.stn_line.specs.declared.words.SiteLog.{SiteLog}
use Rattle.stn_refusal.specs.declared.failure.{Failure.Failure, Fault.Fault}

-- what the log of a site says; one that is gone says nothing
abbrev pub IsSaidByLog : SiteLog → Entries → Option Held → Type 0
IsSaidByLog log entries None = IsThere entries log.name.now false
IsSaidByLog log entries (Some said) = Opens entries log.name.now log.site said

-- a log is there, and can't be opened
abbrev pub IsUnopenedLog : SiteLog → Entries → Failure → Type 0
IsUnopenedLog log entries failure = IsThere entries log.name.now true × IsUnopened entries log.name.now failure

abbrev pub FindsSaid : (Fault → Type 0) → SiteLog → Effect Entries (Option Held)
FindsSaid Fails log = Finds Fails (IsSaidByLog log) (IsUnopenedLog log)

-- a copy of a plan takes in all that another one holds
abbrev pub Joins : (Fault → Type 0) → Held → Held → Effect Entries Content
Joins Fails ours theirs = Makes Fails (λ state. (ours.source ≡ theirs.source) × (join_contents ours.state theirs.state ≡ Some state)) (IsMergeRefusal ours theirs)

-- a state is joined in this way with what a log says; if the log is gone, the state stays
abbrev pub JoinsSaid : (Held → Effect Entries Content) → Content → Option Held → Effect Entries Content
JoinsSaid Joined state None = Gives state
JoinsSaid Joined state (Some said) = Joined said

-- ---- before a session and after it, the site takes in what its log says
-- what a site holds of its plan, and a store
pub record Shared : Type 0 where
  pub state : Content
  pub entries : Entries

abbrev pub shared : Content → Entries → Shared
shared state entries = record { state = state; entries = entries }

-- an effect on the store gives the state that the site holds then; if it stops, the state stays
abbrev pub Becomes : (Content → Effect Entries Content) → Effect Shared (Unit {0})
Becomes Does old new (Ok done) = Does old.state old.entries new.entries (Ok new.state)
Becomes Does old new (Err failure) = Does old.state old.entries new.entries (Err failure) × (new.state ≡ old.state)

abbrev pub TakesLog : (Fault → Type 0) → SiteLog → PlanSource → Effect Shared (Unit {0})
TakesLog Fails log source =
    Becomes (λ state.
    Then (FindsSaid Fails log) (λ said.
    JoinsSaid (λ theirs. Joins Fails (holding_state source state) theirs) state said))

-- the log is saved with the state that the site holds
abbrev pub SavesState : (Fault → Type 0) → SiteLog → PlanSource → Effect Shared (Unit {0})
SavesState Fails log source old new ended =
    Saves Fails log.name.now (record { source = source; state = old.state }) old.entries new.entries ended × (new.state ≡ old.state)

abbrev pub SavesJoin : (Fault → Type 0) → SiteLog → PlanSource → Effect Shared (Unit {0})
SavesJoin Fails log source =
    Then (TakesLog Fails log source) (λ _.
    SavesState Fails log source)

-- ---- in a session it is the log that takes in a state of the site, which stays as it is
abbrev pub KeepsIn : (Fault → Type 0) → SiteLog → PlanSource → Content → Effect Entries (Unit {0})
KeepsIn Fails log source state =
    Then (FindsSaid Fails log) (λ said.
    Then (JoinsSaid (λ ours. Joins Fails ours (holding_state source state)) state said) (λ joined.
    Saves Fails log.name.now (record { source = source; state = joined })))
