-- A session that keeps its states in a place, which is seen as something else.
use Rattle.std.proofs.Common.{rules, List, [], ◌∷◌, Result, Ok, Err, ap}
use Rattle.stn_effects.specs.Effects.{Effect}
use Rattle.stn_lift.specs.PlanSource.{PlanSource}
use Rattle.stn_records.specs.Content.{Content}
use Rattle.stn_wire.specs.Frame.{FrameContent}
use Rattle.stn_session.specs.{Session.{Session, advanced, opening}, Serving.{Talk, talk, Point, KeepsChange, KeepsEach, TakesOne, BreaksOffSession, EndsAt, Serves}, declared.session.{Served.Served, ServeFault.{ServeFault, TheVariants.{Read, Write, Bound, Memory}}}}
use Rattle.stn_refusal.specs.declared.failure.Failure.{Failure}

module _ {P Q : Type 0} (see : P → Q) (Keeps : Content → Effect Q (Unit {0})) where
  abbrev Sees : Content → Effect P (Unit {0})
  Sees state old new = Keeps state (see old) (see new)

  abbrev talk_seen : Talk P → Talk Q
  talk_seen old = talk old.unheard old.told old.state (see old.place)

  abbrev point_seen : Point P → Point Q
  point_seen at = record { bytes = at.bytes; session = at.session; rest = at.rest; kept = see at.kept }

  change_seen : {before after : Content} {old new : P} {ended : Result (Unit {0}) Failure} → KeepsChange Sees before after old new ended → KeepsChange Keeps before after (see old) (see new) ended
  change_seen h = search rules

  each_seen : (session : Session) (frames : List FrameContent) (old new : P) → KeepsEach Sees session frames old new → KeepsEach Keeps session frames (see old) (see new)
  each_seen session [] old new same = ap see same
  each_seen session (frame ∷ frames) old new all = (see all.0, change_seen all.1, each_seen (advanced session frame) frames all.0 new all.2)

  one_seen : (at : Point P) (next : Session) (new : Talk P) (kept : Result (Unit {0}) Failure) → TakesOne Sees at next new kept → TakesOne Keeps (point_seen at) next (talk_seen new) kept
  one_seen at next new kept is = search rules

  broken_seen : (at : Point P) (old new : Talk P) (fault : ServeFault) → BreaksOffSession Sees at old new fault → BreaksOffSession Keeps (point_seen at) (talk_seen old) (talk_seen new) fault
  broken_seen at old new Read is = search rules
  broken_seen at old new Bound is = search rules
  broken_seen at old new Memory is = (is.0, ap see is.1, is.2, is.3)
  broken_seen at old new Write is = search (rules, one_seen)

  ends_seen : (at : Point P) (old new : Talk P) (ended : Result (Result Served ServeFault) Failure) → EndsAt Sees at old new ended → EndsAt Keeps (point_seen at) (talk_seen old) (talk_seen new) ended
  ends_seen at old new (Ok (Ok served)) is = (is.0, ap see is.1, is.2, is.3)
  ends_seen at old new (Ok (Err fault)) is = search (rules, broken_seen)
  ends_seen at old new (Err failure) is = search (rules, one_seen)

  pub serves_seen : {source : PlanSource} {old new : Talk P} {ended : Result (Result Served ServeFault) Failure} → Serves Sees source old new ended
      → Serves Keeps source (talk_seen old) (talk_seen new) ended
  serves_seen {source} {old} {new} {ended} is = record {
    at = point_seen is.at;
    consumed = is.consumed;
    reached = is.reached;
    each = each_seen (opening source old.state) is.reached.frames old.place is.at.kept is.each;
    ends = ends_seen is.at old new ended is.ends;
  }
