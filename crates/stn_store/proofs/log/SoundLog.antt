-- What a log says is sound: its source has a base, and its records are of bounds of the plan.
use Rattle.std.{proofs.{Common.{rules, ◌≡◌, ℕ, Bool, true, not, List, [], ◌∷◌, Option, Some, None, IfSome, Result, Ok, Err, refl, subst}, lemmas.Option.same_Some}, specs.{Prelude.option_map, Bool.then_some, Option.option_or, List.AllByRecursion}}
use Rattle.stn_net.specs.Difference.{IsBoundWithin}
use Rattle.stn_lift.{specs.{PlanSource.{PlanSource, events_of, IsSoundSource}, declared.fault.BaseFault.BaseFault}, proofs.SoundSource.base_sound}
use Rattle.stn_records.{specs.{Record.IsProperRecord, declared.record.Record.Record, Maps.AllFit, Content.{Content, AllProper, no_content, joined_contents}}, proofs.Proper.{empty_fits, union_fits}}
use Rattle.stn_site.{specs.{declared.faults.ReplicaFault.ReplicaFault, Bounds.RecordsName, Held.holding_state, SoundSite.IsSoundSite, Refusals.take_refusal}, proofs.{Refused.records_name-decides, Live.bounds_from_live}}
use Rattle.stn_wire.{specs.Frame.{FrameContent, old_hello, old_records, hello, records, IsFrame}, proofs.SaidBounds.said_bounds}
use Rattle.stn_store.specs.{declared.log.{version.Version.{Version, TheVariants.{Old, New}}, fault.LoadFault.LoadFault}, Log.{Log, LogSoFar, so_far, opened, joined, taken_later, taken, all_taken, all_taken_by, IsLogAnswer, IsRest}}

-- the record is of a bound of so many events
abbrev IsOfEvents : ℕ → Record → Type 0
IsOfEvents events one = IsBoundWithin events one.bound

-- what is true of each log that was opened
record IsSoundLog (log : Log) : Type 0 where
  based : IsSoundSource log.source
  bounds : AllFit (IsOfEvents (events_of log.source)) log.state.additions
  proper : AllProper log.state.additions

-- ---- the first frame
opened_sound : (version : Version) (made : Result PlanSource BaseFault) {next : LogSoFar} → ((source : PlanSource) → made ≡ Ok source → IsSoundSource source)
    → opened version made ≡ Ok next → IsSoundLog next.log
opened_sound version (Err fault) sound is = cc
opened_sound version (Ok source) {next} sound is =
    let same : so_far version (record { source = source; state = no_content }) ≡ next = cc in
    subst (λ (n : LogSoFar). IsSoundLog n.log) same
    (record { based = sound source refl; bounds = empty_fits (IsOfEvents (events_of source)); proper = empty_fits IsProperRecord })

-- ---- a later one
first_none : {X : Type 0} {stands : Bool} (cause : X) (rest : Option X) → option_or (then_some (not stands) cause) rest ≡ None → stands ≡ true
first_none cause rest is = search rules

-- the records of a state are of bounds of each plan that has their events
abbrev HasBounds : Content → Type 0
HasBounds state = (events : ℕ) → RecordsName events state → AllFit (IsOfEvents events) state.additions

joined_sound : (version : Version) {log : Log} (state : Content) {next : LogSoFar} (found : Option ReplicaFault) → IsSoundLog log → HasBounds state → AllProper state.additions
    → take_refusal (holding_state log.source log.state) state ≡ found → joined version found log state ≡ Ok next → IsSoundLog next.log
joined_sound version state (Some fault) sound has proper found is = cc
joined_sound version {log} state {next} None sound has proper found is =
    let events = events_of log.source in
    let whole : so_far version (record { source = log.source; state = joined_contents log.state state }) ≡ next = cc in
    let named = (records_name-decides events state).0 (first_none _ _ found) in
    subst (λ (n : LogSoFar). IsSoundLog n.log) whole
    (record {
      based = sound.based;
      bounds = union_fits (IsOfEvents events) log.state.additions state.additions sound.bounds (has events named);
      proper = union_fits IsProperRecord log.state.additions state.additions sound.proper proper;
    })

later_sound : (version : Version) {log : Log} (frame : FrameContent) {next : LogSoFar} → IsSoundLog log → IsFrame frame → taken_later version log frame ≡ Ok next
    → IsSoundLog next.log
later_sound Old (old_records state) sound is_frame is = search (rules, joined_sound, said_bounds)
later_sound New (records state) sound is_frame is = search (rules, joined_sound, said_bounds)
later_sound version frame sound is_frame is = cc

-- ---- each
taken_sound : (log : Option LogSoFar) (frame : FrameContent) {next : LogSoFar} → IfSome log (λ begun. IsSoundLog begun.log) → IsFrame frame → taken log frame ≡ Ok next
    → IsSoundLog next.log
taken_sound None (old_hello source) sound is_frame is = search (rules, opened_sound, base_sound)
taken_sound None (hello source) sound is_frame is = search (rules, opened_sound, base_sound)
taken_sound None frame sound is_frame is = cc
taken_sound (Some begun) frame sound is_frame is = search (rules, later_sound)

by_first : (frames : List FrameContent) {first : Result LogSoFar LoadFault} {whole : Option LogSoFar}
    → ((next : LogSoFar) → first ≡ Ok next → all_taken (Some next) frames ≡ Ok whole → IfSome whole (λ begun. IsSoundLog begun.log))
    → all_taken_by (λ next. all_taken next frames) first ≡ Ok whole → IfSome whole (λ begun. IsSoundLog begun.log)
by_first frames later is = search rules

all_sound : (log : Option LogSoFar) (frames : List FrameContent) {whole : Option LogSoFar} → IfSome log (λ begun. IsSoundLog begun.log) → AllByRecursion IsFrame frames
    → all_taken log frames ≡ Ok whole → IfSome whole (λ begun. IsSoundLog begun.log)
all_sound log [] sound each is = search rules
all_sound log (frame ∷ frames) {whole} sound each is =
    by_first frames (λ next first later. all_sound (Some next) frames (taken_sound log frame sound each.0 first) each.1 later) is

-- ---- the whole
sound_site : {log : Log} → IsSoundLog log → IsSoundSite (holding_state log.source log.state)
sound_site {log} sound = record {
  based = sound.based;
  live = bounds_from_live (IsBoundWithin (events_of log.source)) log.state (λ id one there live. sound.bounds id one there);
  proper = sound.proper;
}

pub sound_meaning : (more : Bool) (bytes : List ℕ) (log : Log) → IsRest more None bytes (Ok log) → IsSoundSite (holding_state log.source log.state)
sound_meaning more bytes log rest = by (all_taken None rest.frames) refl rest.answer
  where
    whole : (found : Option LogSoFar) → IfSome found (λ begun. IsSoundLog begun.log) → option_map (λ begun. begun.log) found ≡ Some log → IsSoundLog log
    whole None sound is = cc
    whole (Some begun) sound is = subst IsSoundLog (same_Some begun.log log is) sound

    by : (taken : Result (Option LogSoFar) LoadFault) → all_taken None rest.frames ≡ taken → IsLogAnswer more rest.behind taken (Ok log)
        → IsSoundSite (holding_state log.source log.state)
    by (Ok found) is ending = sound_site {log = log} (whole found (all_sound None rest.frames {whole = found} tt rest.each is) ending.2)
    by (Err fault) is ending = cc
